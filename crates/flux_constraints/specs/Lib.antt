pub mod ClassSets
pub mod steps
