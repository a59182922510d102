mod Joining
mod Same
