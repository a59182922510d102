pub mod Turns
pub mod Workers
pub mod Settling
