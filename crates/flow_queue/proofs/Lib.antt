mod Counts
mod Kept
mod Told
