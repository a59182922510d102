pub mod States
pub mod Rule
pub mod Turns
pub mod Examples
