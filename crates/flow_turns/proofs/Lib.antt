mod Owns
mod Ends
mod Ran
pub mod Settled
pub mod Crossing
