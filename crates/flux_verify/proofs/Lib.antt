pub mod Visiting
pub mod Shaping
pub mod holding
pub mod Checking
pub mod Stopping
pub mod FirstFaults
pub mod Settling
pub mod Grounding
