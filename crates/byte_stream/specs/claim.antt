-- What has to be read to believe a promise.
pub mod Counts
pub mod Judged
pub mod Reading
pub mod Sends
pub mod Words
