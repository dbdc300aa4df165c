pub mod Bridging
pub mod DeskLiving
mod Steps
pub mod VersionLiving
pub use Rattle.desk_theorem_runs.proofs as desk_theorem_runs
pub use Rattle.desk_theorem_loading.proofs as desk_theorem_loading
