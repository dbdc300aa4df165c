pub mod Maps
pub mod Places
pub mod Pairs
pub mod Parts
pub mod Runs
