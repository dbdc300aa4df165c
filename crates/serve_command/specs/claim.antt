-- What has to be read to believe a promise.
pub mod Lasting
pub mod Living
pub mod Telling
