pub mod Leftovers
pub mod Finding
pub mod Sweeping
pub mod claim
pub mod Checks
pub use Rattle.chunk_table.specs as chunk_table
