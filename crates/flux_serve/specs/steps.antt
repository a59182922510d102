pub mod Batches
pub mod Driving
pub mod PendingReplies
pub mod Turns
pub mod Workers
