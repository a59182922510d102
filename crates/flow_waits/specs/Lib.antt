pub mod Turns
pub mod Idle
pub mod Driven
pub mod steps
