pub mod claim
pub mod Auditing
pub mod Checking
pub mod Counts
pub mod Sharing
