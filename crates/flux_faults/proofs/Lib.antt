pub mod Counting
pub mod Arrows
