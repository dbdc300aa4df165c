pub mod claim
pub mod Filling
pub mod Formatting
pub mod Loading
pub mod Migrating
pub mod Reading
pub mod Texts
pub mod Sweeping
pub mod Using
pub use Rattle.desk_theorem.specs.loading as desk_theorem_loading
pub use Rattle.desk_theorem.specs.runs as desk_theorem_runs
pub use Rattle.desk_theorem.specs.runs.desk_store
pub use Rattle.desk_theorem.specs as desk_theorem
pub use Rattle.store_command.specs.claim.Faults
pub use Rattle.store_command.specs.claim.Telling
