pub mod Joins
pub mod Uppers
pub mod Searches
