pub mod Plain
pub mod Placing
pub mod Failing
pub mod Counting
pub mod Joined
pub mod Leaves
pub mod Roots
pub mod FromRoot
pub mod Down
pub mod FromNode
pub mod Fits
pub mod Leads
pub mod Placed
pub mod Reach
pub mod Wide
pub use Rattle.page_btree_gets.proofs as gets
