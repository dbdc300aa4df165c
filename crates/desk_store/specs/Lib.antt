pub mod claim
pub mod Keeping
pub mod Changes
pub mod Codes
pub mod Faults
pub mod Loads
pub mod Failures
pub mod Finding
pub mod Sweeps
pub mod Openings
pub mod Calls
pub mod Depth
pub use Rattle.desk_store_opening.specs.geo_tables as geo_tables
pub use Rattle.desk_store_opening.specs.plan_revisions.sweeps as plan_revisions_sweeps
pub use Rattle.desk_store_opening.specs as desk_store_opening
