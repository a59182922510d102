pub mod Kinds
pub mod Pieces
pub mod Texts
pub mod steps
