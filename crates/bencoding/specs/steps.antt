-- Mirrors of what the code does step by step. No public clause cites them.
pub mod Places
pub mod Numbers
pub mod Printed
pub mod Keys
pub mod Values
