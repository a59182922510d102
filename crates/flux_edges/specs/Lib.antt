pub mod Places
pub mod Handlers
pub mod Sessions
pub mod Unserved
pub mod Rows
pub mod steps
