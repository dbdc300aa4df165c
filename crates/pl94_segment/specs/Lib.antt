pub mod claim
pub mod Files
pub mod Join
pub mod SegFile
