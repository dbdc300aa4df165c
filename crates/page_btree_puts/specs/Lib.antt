pub mod Errors
pub mod Putting
pub mod Fitting
pub mod Fingers
pub mod Outcomes
pub mod Reach
pub use Rattle.page_btree_gets.specs as gets
