mod Unwritten
mod Driven
mod AtOnceDriven
mod OneByOne
mod AtOnceByOne
mod OneSource
mod EndedReplies
mod Backs
mod Shares
mod Dealing
mod Working
mod Crossing
pub mod AsSeen
pub mod Counted
pub mod AtOnceSeen
