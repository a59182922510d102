-- Mirrors of what the code does step by step. No public clause cites them.
pub mod Listed
pub mod Cuts
pub mod Named
pub mod Parts
pub mod Reading
pub mod Events
pub mod Lines
pub mod Examples
pub mod Paged
pub mod Phrases
pub mod KeyPhrases
pub mod Quotes
