pub mod Audited
pub mod Counted
pub mod Cutting
pub mod Drafted
pub mod Neighbours
pub mod Outside
pub mod Overlays
pub mod Results
pub mod Stepped
pub mod Whole
pub use Rattle.desk_store_plans.proofs as desk_store_plans
pub use Rattle.desk_store_lists.proofs as desk_store_lists
