pub mod Asked
pub mod Peers
pub mod Tracked
pub mod InTheCell
pub mod steps
pub mod Printed
pub mod Swarms
