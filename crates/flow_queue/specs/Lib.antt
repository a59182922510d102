pub mod States
pub mod Rule
pub mod Calls
