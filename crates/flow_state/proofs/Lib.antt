mod Entries
mod Held
mod Lines
pub mod Tables
mod Against
pub mod Sets
pub mod Ended
mod AtPlaces
mod Moved
mod OnFields
pub mod Agreeing
pub mod Fitting
mod Asked
mod Called
mod Opened
mod Stopped
