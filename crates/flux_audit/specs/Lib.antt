pub mod Rules
pub mod Verdicts
pub mod Printed
pub mod Laws
pub mod steps
