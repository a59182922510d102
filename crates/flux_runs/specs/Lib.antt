pub mod Setups
pub mod Orders
pub mod Opening
pub mod Summaries
pub mod Printed
pub mod Simulations
pub mod steps
