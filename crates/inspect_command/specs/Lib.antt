pub mod claim
pub mod Needs
pub mod Figures
pub mod Rows
pub mod Stats
pub mod Sound
pub mod Verifying
pub mod Comparing
pub use Rattle.census_difference.specs as census_difference
pub use Rattle.store_verification.specs as store_verification
pub use Rattle.store_command.specs as store_command
pub use Rattle.store_command.specs.desk_theorem_loading
pub use Rattle.store_command.specs.desk_theorem_runs
pub use Rattle.store_command.specs.desk_store
pub use Rattle.store_command.specs.desk_theorem
pub use Rattle.inspect_command.specs.claim.SoundTexts
pub use Rattle.inspect_command.specs.claim.Texts
