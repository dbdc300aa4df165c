use Rattle.{std.{specs.FinMap.entries, proofs.Common.{◌≡◌, ◌+◌, ◌≤◌, length, Ok}}, desk_store_opening_tidy.specs.Rows.{AreOfLoadsTo, HasKnownLoads, IsPast}}
use Rattle.{desk_store_pages.specs.{Looking.Looks, Reading.StandsAs}, desk_store_rows.specs.claim.{Keys.{key_of, seal}, Values.seal_bytes}}
use Rattle.{page_btree.specs.node.Places.entries_from, page_store.specs.claim.Transactions.{count_of, txn_pages}}
use Rattle.desk_store_opening_tidy.proofs.loads.check_loads.Given as goal

abbrev pub invariant-loop-taken : goal.invariant-loop-taken
invariant-loop-taken g l = record {
  begun : txn_pages l.txn ≡ count_of l.pages;
  past : IsPast l.from;
  looked : Looks (λ m _. StandsAs seal_bytes (key_of seal) m l.sealed → AreOfLoadsTo l.from m × (length (entries_from l.from (entries m)) + l.taken ≤ length (entries m)))
      (HasKnownLoads l.sealed) l.txn l.fn.pages l.pages (Ok (tt {0}));
}
