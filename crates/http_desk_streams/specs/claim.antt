-- What has to be read to believe a promise.
pub mod Answers
pub mod Asking
pub mod Bodies
pub mod Serving
pub mod Talk
