pub mod Staying
pub mod Waking
pub mod Covers
pub mod Aside
