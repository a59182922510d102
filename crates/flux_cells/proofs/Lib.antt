pub mod Keys
pub mod CellLemmas
pub mod Settling
pub mod Overlays
pub mod Copied
pub mod OneChange
pub mod AfterPuts
