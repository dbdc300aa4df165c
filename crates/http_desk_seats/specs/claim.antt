-- What has to be read to believe a promise.
pub mod Explained
pub mod Seated
pub mod Served
pub mod Streams
