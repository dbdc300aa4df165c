-- What has to be read to believe a promise.
pub mod Clauses
pub mod People
