pub mod Machine
pub mod Runs
pub mod Moves
pub mod Flows
pub mod Reading
pub mod Leading
pub mod Faulty
pub mod steps
