pub mod States
pub mod Journals
pub mod Rule
pub mod Turns
pub mod Examples
pub mod Laws
