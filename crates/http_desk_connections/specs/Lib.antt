pub mod claim
pub mod Answers
pub mod Entering
pub mod Paces
pub mod Taking
