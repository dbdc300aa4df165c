pub mod claim
pub mod Forest
pub mod Laws
pub mod Lowest
pub mod Parts
pub mod Rooted
