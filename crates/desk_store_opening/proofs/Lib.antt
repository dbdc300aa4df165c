pub mod Laying
pub mod FreeLists
pub mod Revisions
pub mod Parts
pub mod NewPlans
pub mod WholeDesks
pub mod Shown
pub mod PlanNumbers
pub mod Owned
pub mod Within
pub mod Readings
pub mod Made
pub mod Told
pub use Rattle.plan_revisions.proofs as plan_revisions
pub use Rattle.plan_revisions.proofs.chunk_table
pub use Rattle.desk_store_opening_tidy.proofs as tidy
