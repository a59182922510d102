mod Pieces
mod Batches
pub mod Fronts
pub mod Keeping
