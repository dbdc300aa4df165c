-- What has to be read to believe a promise.
pub mod Methods
pub mod Orders
pub mod Queries
pub mod Routes
