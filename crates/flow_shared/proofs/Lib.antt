pub mod Journals
mod Kept
mod AtSeats
mod Results
mod Examples
