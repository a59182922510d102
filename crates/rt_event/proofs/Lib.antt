mod Ends
mod Rounds
mod Crossing
