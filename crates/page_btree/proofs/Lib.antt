pub use Rattle.page_btree_puts.proofs.gets.node
pub use Rattle.page_btree_puts.proofs.gets
pub use Rattle.page_btree_puts.proofs as puts
pub use Rattle.page_btree_removes.proofs as removes
pub use Rattle.page_btree_checks.proofs as checks
