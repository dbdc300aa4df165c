pub mod Answers
pub mod Connections
pub mod Counts
pub mod Hearing
pub mod Lines
pub mod Waits
