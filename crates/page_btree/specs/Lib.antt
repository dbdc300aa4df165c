pub use Rattle.page_btree_puts.specs.gets.node
pub use Rattle.page_btree_puts.specs.gets
pub use Rattle.page_btree_puts.specs as puts
pub use Rattle.page_btree_removes.specs as removes
pub use Rattle.page_btree_checks.specs as checks
