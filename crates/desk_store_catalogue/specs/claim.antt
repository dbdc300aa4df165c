-- What has to be read to believe a promise.
pub mod Accepting
pub mod Audits
