-- Steps of the code, which no public clause cites.
pub mod Marking
