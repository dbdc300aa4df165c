-- What has to be read to believe a promise.
pub mod Errors
pub mod Keys
pub mod Map
pub mod Tree
