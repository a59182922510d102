-- Mirrors of what the code does step by step. No public clause cites them.
pub mod Given
pub mod Found
pub mod Replies
pub mod Asking
