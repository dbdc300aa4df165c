pub mod Removing
pub mod Sparing
pub mod Outcomes
