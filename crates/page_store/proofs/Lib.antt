pub mod Stops
pub mod Chains
pub mod Opened
mod Linked
mod Made
pub use Rattle.gate_journal.proofs as gate_journal
