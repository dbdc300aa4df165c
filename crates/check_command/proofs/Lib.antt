pub mod AtOnce
pub mod Beside
pub mod Counted
pub mod Shared
