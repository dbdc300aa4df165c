pub mod Scanned
pub mod Kept
pub mod FirstRows
pub mod After
pub mod PartOrder
