mod Kept
mod Goings
mod AtSeats
mod Examples
