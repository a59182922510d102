pub mod Arriving
pub mod Places
pub mod Nodes
pub mod Nested
