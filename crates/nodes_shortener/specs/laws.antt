-- Laws of the definitions, which the trait of libraries asks for. Nobody has to believe them.
pub mod Arguments
pub mod Cells
pub mod Nodes
pub mod Own
