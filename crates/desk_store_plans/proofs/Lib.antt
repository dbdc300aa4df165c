pub mod AsMap
pub mod Held
pub mod Rising
pub mod Splits
