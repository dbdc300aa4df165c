-- What has to be read to believe a promise.
pub mod After
pub mod Begun
pub mod Outcomes
pub mod Telling
pub mod Working
