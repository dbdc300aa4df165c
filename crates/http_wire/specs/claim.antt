-- What has to be read to believe a promise.
pub mod Connection
pub mod Prefix
pub mod Interim
pub mod Target
pub mod Answer
pub mod Phrases
