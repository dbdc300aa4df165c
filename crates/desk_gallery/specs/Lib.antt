pub mod claim
pub mod Rules
pub mod Shelves
pub mod Fronts
pub mod Working
pub mod Naming
pub mod Begun
pub mod Copies
pub use Rattle.desk_theorem_runs.specs as desk_theorem_runs
pub use Rattle.desk_theorem_runs.specs.desk_store
pub use Rattle.sector_copies.specs as sector_copies
