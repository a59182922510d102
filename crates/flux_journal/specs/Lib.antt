pub mod Formats
pub mod Pages
pub mod Logs
pub mod Entries
pub mod Spelled
pub mod Journals
pub mod Laws
pub mod steps
