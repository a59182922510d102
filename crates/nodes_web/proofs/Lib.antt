mod Front
mod Endings
mod Parts
mod Joined
