pub mod claim
pub mod Bridge
pub mod DeskInside
pub mod VersionInside
pub use Rattle.desk_theorem_runs.specs as desk_theorem_runs
pub use Rattle.desk_theorem_runs.specs.desk_store as desk_store
pub use Rattle.desk_theorem_loading.specs as desk_theorem_loading
