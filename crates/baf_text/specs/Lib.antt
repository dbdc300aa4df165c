pub mod claim
pub mod Body
pub mod Ends
pub mod Prefix
pub mod Laws
pub mod Listed
