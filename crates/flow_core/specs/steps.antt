pub mod Fields
pub mod Sameness
pub mod Passing
