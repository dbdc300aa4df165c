pub mod claim
pub mod Marks
pub mod Splits
