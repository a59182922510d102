pub mod Closing
pub mod Seen
pub mod Turns
pub mod Only
pub mod Ends
