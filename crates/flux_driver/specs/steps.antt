-- Mirrors of what the code does step by step. No public clause cites them.
pub mod Orders
pub mod Telling
