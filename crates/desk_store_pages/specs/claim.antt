-- What has to be read to believe a promise.
pub mod Commits
pub mod Desks
pub mod Openings
pub mod Puts
