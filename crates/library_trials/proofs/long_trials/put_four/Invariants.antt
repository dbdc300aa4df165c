use Rattle.{std.proofs.Common.◌≡◌, page_store.specs.claim.Transactions.{txn_pages, count_of}}
use Rattle.library_trials.proofs.long_trials.put_four.Given as goal

abbrev pub invariant-loop-i : goal.invariant-loop-i
invariant-loop-i l = txn_pages l.txn ≡ count_of l.pages
