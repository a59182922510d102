pub mod Places
pub mod Table
pub mod Cells
pub mod Fields
pub mod Starts
pub mod Reads
pub mod GhostLogs
