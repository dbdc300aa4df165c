pub mod Told
pub mod Device
pub mod Recalled
pub mod Kinds
pub mod Reader
pub mod Runs
