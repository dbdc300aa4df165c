-- What has to be read to believe a promise.
pub mod Calls
pub mod DeskLives
pub mod Versions
