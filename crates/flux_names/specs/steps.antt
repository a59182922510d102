-- Steps of the code, which no public clause cites.
pub mod Sorts
pub mod Picks
pub mod Rows
pub mod Repeats
pub mod Classes
pub mod Codes
pub mod Nodes
pub mod Faults
