use Rattle.{std.proofs.Common.◌≡◌, page_store.specs.claim.Transactions.{txn_pages, count_of}}
use Rattle.surface_trials.proofs.trees.no_page_is_left.Given as goal

abbrev pub invariant-loop-p : goal.invariant-loop-p
invariant-loop-p g l = txn_pages l.txn ≡ count_of l.pages
