pub mod Nodes
pub mod Own
pub mod laws
