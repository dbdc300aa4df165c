pub mod Following
mod Migrated
pub mod One
mod Runs
mod Stepping
pub mod Steps
pub mod SweptRuns
pub use Rattle.desk_store.proofs as desk_store
pub use Rattle.desk_store.proofs.plan_revisions_sweeps
pub use Rattle.desk_migration.proofs as desk_migration
