use Rattle.{std.proofs.Common.◌≡◌, page_store.specs.claim.Transactions.{stored, over}, page_btree_checks.proofs.Errors.checked, page_btree_gets.proofs.Outcomes.reads_err}
use Rattle.page_store.proofs.Stops.{quiet_none}
use Rattle.page_btree_checks.proofs.checks.check_pages.Goals as goal

pub returns-in_default-clause-reading : goal.returns-in_default-clause-reading
returns-in_default-clause-reading g c = reads_err (quiet_none c.args.pages.now) tt

pub returns-clause-owned : goal.returns-clause-owned
returns-clause-owned g c = λ honest. let same : over c.begin-txn.result (stored c.args.pages.now) ≡ stored c.args.pages.now = λ i q. c.begin-txn.ensures.over q i in rw (same, c.begin-txn.ensures.pages) at (c.check_owners.ensures.owned honest)

pub returns-clause-reading : goal.returns-clause-reading
returns-clause-reading g c =
    let same : over c.begin-txn.result (stored c.args.pages.now) ≡ stored c.args.pages.now = λ i q. c.begin-txn.ensures.over q i in
    checked c.check_owners.ensures.reading (λ honest is. rw (same, c.begin-txn.ensures.pages) is)

pub returns-clause-told : goal.returns-clause-told
returns-clause-told g c = λ honest. let same : over c.begin-txn.result (stored c.args.pages.now) ≡ stored c.args.pages.now = λ i q. c.begin-txn.ensures.over q i in rw (same, c.begin-txn.ensures.pages) at (c.check_owners.ensures.told honest)
