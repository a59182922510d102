pub mod Arguments
pub mod Cells
pub mod Nodes
pub mod Own
pub mod laws
