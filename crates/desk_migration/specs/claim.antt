-- What has to be read to believe a promise.
pub mod Holding
pub mod Migrating
pub mod Openings
