pub mod claim
pub mod Accepting
pub mod Codes
pub mod Cutting
pub mod Drafts
pub mod Kept
pub mod Lines
pub mod Made
pub mod Patches
pub mod Posted
pub use Rattle.desk_store_plans.specs as desk_store_plans
pub use Rattle.desk_store_lists.specs as desk_store_lists
