-- What has to be read to believe a promise.
pub mod Entries
pub mod Node
pub mod Places
