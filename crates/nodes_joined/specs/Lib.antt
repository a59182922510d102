pub mod Joined
pub mod laws
