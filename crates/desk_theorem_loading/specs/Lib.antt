pub mod Loads
pub mod Openings
pub mod Starts
