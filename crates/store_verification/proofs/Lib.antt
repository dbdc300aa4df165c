pub mod Seen
mod Opened
mod Rows
mod Lent
pub use Rattle.store_verification_rows.proofs as rows
