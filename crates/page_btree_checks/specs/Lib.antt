pub mod Errors
pub mod Faults
pub mod Marks
pub mod Order
pub mod Owners
