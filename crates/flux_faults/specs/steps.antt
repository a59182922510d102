-- Steps of the code, which no public clause cites.
pub mod Places
pub mod Arrows
