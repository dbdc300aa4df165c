pub mod claim
pub mod Parts
pub mod Walks
pub mod Puts
pub mod Outcomes
pub mod Openings
pub mod TurningBack
pub mod Calls
