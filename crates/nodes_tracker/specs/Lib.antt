pub mod Nodes
pub mod Asks
pub mod Swarms
pub mod Replies
pub mod Calls
pub mod Trackers
pub mod laws
pub mod steps
