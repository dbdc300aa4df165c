pub mod claim
pub mod Buffer
pub mod Reading
pub mod Sends
pub mod Turns
pub mod Words
