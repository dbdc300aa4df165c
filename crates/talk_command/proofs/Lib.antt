pub mod Seen
pub mod Desks
mod Streams
mod Living
