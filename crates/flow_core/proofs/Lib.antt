mod SameCells
mod Comes
mod LegalRuns
mod Moved
pub mod Sequels
pub mod Crossing
