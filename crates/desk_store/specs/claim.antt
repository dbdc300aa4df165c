-- What has to be read to believe a promise.
pub mod Clerks
pub mod Commands
pub mod Keeping
pub mod Openings
