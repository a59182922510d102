pub mod Locks
pub mod Tables
pub mod Blockers
pub mod Changes
pub mod Lines
