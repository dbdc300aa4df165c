pub mod Sweeping
pub mod Requests
mod Refused
mod Audits
mod Readers
mod StreamAsked
pub mod Sim
pub mod OneLife
pub mod Device
mod Lives
pub mod Asked
pub mod Looked
mod Calling
mod Core
mod Weaving
mod Worlds
pub use Rattle.desk_theorem_lives.proofs as lives
pub use Rattle.desk_theorem_lives.proofs.desk_theorem_runs as runs
pub use Rattle.desk_theorem_lives.proofs.desk_theorem_loading as loading
