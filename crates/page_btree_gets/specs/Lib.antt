pub mod claim
pub mod Asked
pub mod Keys
pub mod Map
pub mod Errors
pub mod Getting
pub mod Leading
pub mod Seeking
pub mod Tests
pub mod Editing
pub mod Outcomes
pub use Rattle.page_store.specs.gate_journal
pub use Rattle.page_btree_node.specs as node
