pub mod claim
pub mod Store
pub mod Steps
pub mod Recovery
pub mod Writes
pub mod Format
pub mod Outcomes
