pub mod claim
pub mod Counts
pub mod People
