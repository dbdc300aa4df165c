use Rattle.{std.proofs.Common.{◌≡◌, drop}, page_store.specs.claim.Transactions.{count_of, txn_pages}, chunk_table.proofs.HeldAll.HasHeldTo}
use Rattle.chunk_table.proofs.holds.hold_all.Given as goal

abbrev pub invariant-loop-number : goal.invariant-loop-number
invariant-loop-number g l = record {
  held : HasHeldTo l.plan l.numbers (drop l.number-index l.numbers) l.free l.fingers l.fn.txn l.txn l.fn.pages l.pages;
  begun : txn_pages l.txn ≡ count_of l.pages;
}
