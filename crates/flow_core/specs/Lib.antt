pub mod States
pub mod Moves
pub mod Runs
pub mod Laws
pub mod steps
