-- Mirrors of what the code does step by step. No public clause cites them.
pub mod Joining
pub mod Reaching
pub mod Sizing
pub mod Lowest
pub mod Declaring
pub mod Appending
