pub mod Counties
pub mod Told
pub mod Looked
pub mod Living
pub mod Unread
mod Unsound
mod Devices
mod Since
mod Compared
pub use Rattle.store_command.proofs as store_command
pub use Rattle.store_command.proofs.desk_theorem
