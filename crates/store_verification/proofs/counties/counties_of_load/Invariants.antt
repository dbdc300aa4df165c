use Rattle.{std.proofs.Common.◌≡◌, page_store.specs.claim.Transactions.{count_of, txn_pages, IsQuiet}}
use Rattle.store_verification.proofs.counties.counties_of_load.Given as goal

abbrev pub invariant-loop-taken : goal.invariant-loop-taken
invariant-loop-taken g l = record { begun : txn_pages l.txn ≡ count_of l.pages; quiet : IsQuiet l.fn.pages l.pages }
