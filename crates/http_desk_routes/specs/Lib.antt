pub mod claim
pub mod Orders
pub mod Pairs
pub mod Routes
