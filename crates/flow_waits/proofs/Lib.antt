mod Others
mod Blocked
mod Sets
mod Keyed
pub mod Orders
mod Membership
mod Choosing
mod Waking
mod Woken
mod Told
pub mod Turning
mod Lowest
pub mod Ending
mod Finishing
pub mod Counting
pub mod Schedules
mod Driving
pub mod Aside
