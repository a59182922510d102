-- Mirrors of what the code makes. No public clause cites them.
pub mod Segments
