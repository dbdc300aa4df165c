-- What has to be read to believe a promise.
pub mod Chunks
pub mod Limits
pub mod Lines
