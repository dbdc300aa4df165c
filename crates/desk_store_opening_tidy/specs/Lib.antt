pub mod claim
pub mod Rows
pub mod Numbers
pub mod Owners
