mod Following
mod Scheduled
