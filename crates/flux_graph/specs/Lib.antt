pub mod Below
pub mod Faults
pub mod steps
