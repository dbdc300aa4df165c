-- What has to be read to believe a promise.
pub mod Breaks
pub mod Paths
