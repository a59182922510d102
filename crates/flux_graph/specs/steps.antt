pub mod Searching
pub mod Search
pub mod Stops
pub mod Returning
pub mod Clearing
pub mod Descending
pub mod Leaders
