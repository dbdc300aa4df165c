pub mod claim
pub mod Chain
pub mod Lending
pub mod Formats
pub mod Openings
pub mod Transactions
pub mod Lent
pub mod Outcomes
pub mod Reading
pub mod New
pub mod Calls
pub use Rattle.gate_journal.specs as gate_journal
