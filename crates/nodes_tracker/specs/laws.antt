-- Laws of the definitions: a swarm that is kept reads back, and what the trait of libraries asks
-- for. Nobody has to believe them.
pub mod Swarms
pub mod Sizes
pub mod Members
pub mod Bytes
pub mod Asks
pub mod Trackers
