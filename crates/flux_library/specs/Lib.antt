pub mod Libraries
pub mod Types
pub mod Signatures
pub mod Answers
pub mod Sessions
pub mod Documents
pub mod laws
