mod Ends
mod Failing
mod Lasts
mod Offices
pub mod Living
