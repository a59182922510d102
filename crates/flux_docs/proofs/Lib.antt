pub mod SoFar
pub mod Once
