pub mod claim
pub mod Entries
pub mod GeoFile
pub mod Holding
pub mod Sets
pub mod Whole
