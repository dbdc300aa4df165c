pub mod claim
pub mod Lines
