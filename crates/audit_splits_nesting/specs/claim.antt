-- What has to be read to believe a promise.
pub mod Divided
pub mod Exactly
pub mod Nested
