pub mod Alls
pub mod laws
