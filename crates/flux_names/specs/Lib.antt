pub mod Rows
pub mod Resolving
pub mod steps
