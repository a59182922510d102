pub mod Nodes
pub mod Entries
pub mod Calls
pub mod Cachings
pub mod laws
pub mod steps
