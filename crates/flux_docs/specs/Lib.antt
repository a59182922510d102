pub mod Causes
pub mod Documents
pub mod Folders
pub mod steps
