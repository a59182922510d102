pub mod Lines
pub mod Spelled
pub mod Rules
pub mod Items
pub mod Faults
pub mod Apart
pub mod steps
