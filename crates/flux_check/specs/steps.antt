-- Steps of the code, which no public clause cites.
pub mod Seen
pub mod Summing
pub mod Checking
