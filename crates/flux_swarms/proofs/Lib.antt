mod Rising
mod Moves
mod Swarmed
mod Cells
mod Right
mod Yielded
