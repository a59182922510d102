pub mod Stood
pub mod Plans
