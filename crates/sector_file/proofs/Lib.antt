mod Steps
mod Disks
mod Readers
mod Runs
mod Zeroed
pub mod Sending
