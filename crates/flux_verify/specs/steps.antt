-- Mirrors of what the checks do step by step. No public clause cites them.
pub mod Visits
pub mod Shapes
pub mod Checks
pub mod Orders
