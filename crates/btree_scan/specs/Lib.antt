pub mod Parts
pub mod Prefixes
pub mod Scanning
pub mod Taken
pub mod Turning
