-- What has to be read to believe a promise.
pub mod Faults
pub mod Files
pub mod Living
pub mod Telling
