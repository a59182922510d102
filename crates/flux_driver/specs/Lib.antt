pub mod steps
pub mod Seen
pub mod Serving
pub mod Top
