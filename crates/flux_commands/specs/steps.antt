-- Mirrors of what the code does step by step. No public clause cites them.
pub mod Documents
pub mod Refusals
pub mod Running
pub mod Preparing
pub mod Loading
pub mod Auditing
