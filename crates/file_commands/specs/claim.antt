-- What has to be read to believe a promise.
pub mod Audits
pub mod Running
