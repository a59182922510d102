pub mod Links
pub mod Replies
pub mod Gathered
pub mod steps
