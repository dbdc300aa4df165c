pub mod claim
pub mod Assembled
pub mod Audits
pub mod Keys
pub mod Laws
pub mod Pieces
pub mod Share
pub mod Work
pub use Rattle.audit_contiguity.specs as audit_contiguity
pub use Rattle.audit_population.specs as audit_population
pub use Rattle.audit_splits_nesting.specs as audit_splits_nesting
