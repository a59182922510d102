-- Steps of the code, which no public clause cites.
pub mod Filling
pub mod Passing
