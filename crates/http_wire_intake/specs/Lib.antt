pub mod claim
pub mod Budget
pub mod Body
pub mod Draws
pub mod Chunks
pub mod Chunked
pub mod ChunkParts
