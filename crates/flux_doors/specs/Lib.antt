pub mod Seen
pub mod Doors
pub mod Arrivals
pub mod Entrances
pub mod Memory
pub mod Texts
pub mod steps
