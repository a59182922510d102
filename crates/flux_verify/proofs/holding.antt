-- What a run of a verified plan holds: what its frames have taken and not dropped.
pub mod Modes
pub mod Segments
pub mod Frames
pub mod Moving
pub mod Ordering
