pub mod Codes
pub mod Falls
pub mod Heights
pub mod Held
pub mod Rows
pub mod Tree
