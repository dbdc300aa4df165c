-- What has to be read to believe a promise.
pub mod Lives
pub mod Migrations
pub mod Recovery
pub mod Runs
pub mod SweptRuns
