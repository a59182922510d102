pub mod States
pub mod Calls
pub mod Coming
pub mod Blockers
pub mod Lines
pub mod Moves
pub mod steps
