pub mod Types
pub mod Keeping
pub mod Sets
pub mod Counted
pub mod Printed
pub mod Reports
pub mod Plans
pub mod steps
