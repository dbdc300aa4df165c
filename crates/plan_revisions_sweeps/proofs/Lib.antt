mod Keys
mod Scanned
mod Least
mod Left
pub mod Taken
pub mod Stepped
mod Counted
mod Told
mod Named
pub use Rattle.chunk_table.proofs as chunk_table
