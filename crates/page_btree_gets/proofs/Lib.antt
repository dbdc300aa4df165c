pub mod Booleans
pub mod MapLaws
pub mod Outcomes
pub mod Rows
pub mod Within
pub mod Descent
pub mod Seeking
pub mod Tops
pub mod Placed
pub mod Refusals
pub mod Below
pub mod Rising
pub mod Leads
pub mod Reaching
pub mod Following
pub mod Editing
pub use Rattle.page_store.proofs.gate_journal
pub use Rattle.page_btree_node.proofs as node
