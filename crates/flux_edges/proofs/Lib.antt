pub mod Needs
pub mod Marks
pub mod Along
pub mod Texts
