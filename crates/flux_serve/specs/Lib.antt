pub mod Served
pub mod Orders
pub mod Batches
pub mod Runs
pub mod Ends
pub mod AtOnce
pub mod steps
