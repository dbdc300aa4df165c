pub mod claim
pub mod Premises
pub mod Checks
pub mod Prefixes
pub mod Quotes
pub mod Logs
pub mod Refusals
