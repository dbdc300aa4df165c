-- What has to be read to believe a promise.
pub mod Contents
pub mod Store
pub mod Writes
