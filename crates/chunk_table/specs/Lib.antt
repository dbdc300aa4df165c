pub mod Appended
pub mod ChunkChanging
pub mod ChunkReading
pub mod Holding
pub mod Numbering
pub mod Parts
pub mod Releasing
