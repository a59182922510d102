pub mod Changes
pub mod Ticking
pub mod Calls
