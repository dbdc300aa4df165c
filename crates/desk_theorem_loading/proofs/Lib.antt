pub mod Moves
pub mod Opened
pub mod Staged
