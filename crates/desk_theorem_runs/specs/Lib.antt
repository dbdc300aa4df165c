pub mod claim
pub mod Recovery
pub mod Steps
pub mod Turns
pub use Rattle.desk_migration.specs as desk_migration
pub use Rattle.desk_store_pages.specs as desk_store_pages
pub use Rattle.desk_store.specs as desk_store
pub use Rattle.desk_store.specs.plan_revisions_sweeps
