use Rattle.{std.proofs.Common.{◌≡◌, Ok, length}, desk_store_opening.specs.Reading.{AreAllWithin, IsPlanRow, IsWhole}, desk_store_pages.specs.Looking.{Gathers, Says}}
use Rattle.{page_store.specs.claim.Transactions.{count_of, txn_pages}, desk_store_opening.proofs.Readings.IsEntryRead}
use Rattle.desk_store_opening.proofs.entries.read_entry.Given as goal

abbrev pub invariant-loop-before : goal.invariant-loop-before
invariant-loop-before g l = record {
  reads : Gathers (λ m entry. IsEntryRead l.geography l.fn.name l.row l.before l.last.items m entry) (Says (IsPlanRow l.geography l.fn.name l.row)) l.txn l.initial.pages l.pages (Ok l.entry);
  whole : IsWhole l.geography l.entry.1;
  within : AreAllWithin l.entry.1;
  named : l.entry.0 ≡ l.fn.name;
  kind : l.entry.1.kind ≡ l.row.kind;
  districts : l.entry.1.n ≡ l.row.districts;
  many : length l.entry.1.revisions ≡ l.before;
  begun : txn_pages l.txn ≡ count_of l.pages;
}
