pub mod Jobs
pub mod Options
pub mod Sizes
