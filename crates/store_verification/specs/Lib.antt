pub mod Readers
pub mod Looking
pub use Rattle.store_verification_rows.specs as rows
