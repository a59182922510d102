pub mod Steps
pub mod Paged
pub mod Answered
pub mod Told
pub mod Driven
pub mod Serves
pub mod ServedBy
pub mod ServedDone
