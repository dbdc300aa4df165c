pub mod Wholes
pub mod Strays
