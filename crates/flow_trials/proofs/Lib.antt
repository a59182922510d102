mod Opened
mod Sizes
mod Reached
mod Recalled
