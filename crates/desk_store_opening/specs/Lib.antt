pub mod Reading
pub mod Opening
pub mod Held
pub mod Checking
pub use Rattle.plan_revisions.specs as plan_revisions
pub use Rattle.plan_revisions.specs.chunk_table
pub use Rattle.desk_store_opening_tidy.specs as tidy
pub use Rattle.geo_tables.specs as geo_tables
