pub mod Growth
pub mod Keeping
pub mod OneList
pub mod Rooting
pub mod Telling
pub mod Walks
