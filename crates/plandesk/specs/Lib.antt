pub mod claim
