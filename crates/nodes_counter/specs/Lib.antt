pub mod Numbers
pub mod Nodes
pub mod Calls
pub mod Counters
pub mod laws
