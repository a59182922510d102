pub mod Round
pub mod steps
