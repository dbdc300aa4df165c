-- What has to be read to believe a promise.
pub mod Faults
pub mod Telling
pub mod Writing
