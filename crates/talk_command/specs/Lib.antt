pub mod claim
pub mod Faults
pub mod Desks
