use Rattle.{std.proofs.Common.{◌∙◌, rules}, page_store.specs.claim.Transactions.{stored, txn_pages, over}, page_btree_checks.proofs.{Errors.unread, Faults.unread_told}}
use Rattle.page_btree_gets.proofs.Outcomes.{reads_ok}
use Rattle.page_btree_checks.proofs.tree.read_node.Goals as goal

pub returns-in_err-own-clause-reading : goal.returns-in_err-own-clause-reading
returns-in_err-own-clause-reading g c = unread c.in_err-own.ensures.reading c.from_residual.ensures.1

pub returns-in-Err-clause-reading : goal.returns-in-Err-clause-reading
returns-in-Err-clause-reading g c = search rules

pub returns-then-level-clause-reading : goal.returns-then-level-clause-reading
returns-then-level-clause-reading g c = search rules

pub returns-else-level-clause-reading : goal.returns-else-level-clause-reading
returns-else-level-clause-reading g c = reads_ok c.in_ok-own.ensures.reading.passed

pub returns-else-level-clause-node : goal.returns-else-level-clause-node
returns-else-level-clause-node g c = λ honest. rw (c.lent.ensures ∙ c.in_ok-own.ensures.lends honest) at c.in-Ok.ensures.read

pub returns-in_err-own-clause-told : goal.returns-in_err-own-clause-told
returns-in_err-own-clause-told g c = λ honest place. unread_told _ (txn_pages c.args.txn.now) (over c.args.txn.now (stored c.args.pages.now)) c.in_err-own.field-0.0 c.from_residual.ensures.1

pub returns-in-Err-clause-told : goal.returns-in-Err-clause-told
returns-in-Err-clause-told g c = λ honest (d, low, high, place, is). search rules

pub returns-then-level-clause-told : goal.returns-then-level-clause-told
returns-then-level-clause-told g c = λ honest (d, low, high, place, is). search rules
