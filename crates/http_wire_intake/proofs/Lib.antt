pub mod DrawsLemmas
pub mod Prefixes
pub mod LineLemmas
mod ReadBufferLemmas
mod BodyLemmas
mod LookLemmas
mod ChunkLookLemmas
mod ChunkReadLemmas
mod ChunkLemmas
mod ChunkStays
mod ChunkCases
