mod Led
pub mod Living
pub mod Migrated
pub mod Read
pub mod Swept
pub mod Opened
mod Steps
mod Unopened
pub mod Used
pub use Rattle.desk_theorem.proofs.runs.desk_store
pub use Rattle.desk_theorem.proofs.runs as desk_theorem_runs
pub use Rattle.desk_theorem.proofs as desk_theorem
