pub mod Sorted
pub mod CellLemmas
pub mod Sets
pub mod Equal
