pub mod Images
pub mod Commit
pub mod Headers
pub mod Quiet
pub mod Overlays
