mod Counts
mod Cuts
mod Moves
mod One
mod Starts
mod Once
pub mod Rules
