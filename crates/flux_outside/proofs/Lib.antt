pub mod Consumed
pub mod Writes
pub mod Lasts
