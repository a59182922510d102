pub mod Signatures
pub mod Rows
pub mod Typing
pub mod steps
