pub mod Keeping
pub mod Passing
pub mod Judging
pub mod Opening
pub mod Checking
pub mod Equal
pub mod Passed
