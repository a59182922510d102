mod Cuts
mod Numbers
mod HashBytes
mod Trees
mod Places
mod Yielded
