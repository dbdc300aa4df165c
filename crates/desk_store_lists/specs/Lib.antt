pub mod Forms
pub mod Laid
pub mod Parts
pub mod Pieces
