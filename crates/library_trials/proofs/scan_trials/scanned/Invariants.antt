use Rattle.{std.proofs.Common.◌≡◌, page_store.specs.claim.Transactions.{txn_pages, count_of}}
use Rattle.library_trials.proofs.scan_trials.scanned.Given as goal

abbrev pub invariant-loop-n : goal.invariant-loop-n
invariant-loop-n g l = txn_pages l.txn ≡ count_of l.pages
