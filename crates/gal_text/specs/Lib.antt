pub mod claim
pub mod Holding
pub mod Links
pub mod Pairing
pub mod Parts
pub mod Relation
