use Rattle.{std.proofs.Common.{inl, inr, refl, sym, ap, ◌∙◌, arith, rules}, page_store.specs.claim.{Chain.is_blank, Transactions.{stored, txn_pages, over}}}
use Rattle.{page_btree_checks.proofs.{Errors.unread, Faults.{name_told, unread_told}}, page_btree_gets.proofs.Outcomes.{reads_ok, reads_err, refused_by}}
use Rattle.page_store.proofs.{Chains.both_ways, Stops.quiet_none}
use Rattle.page_btree_checks.proofs.free.check_free_page.Goals as goal

pub returns-in_err-name-clause-reading : goal.returns-in_err-name-clause-reading
returns-in_err-name-clause-reading g c = refused_by _ c.from_residual.ensures.1 (quiet_none c.args.pages.now) (λ honest is. c.in_err-name.ensures.err is.0.0 is.0.1)

pub lend-requires-clause-page : goal.lend-requires-clause-page
lend-requires-clause-page g c = let lt = c.in_ok-name.ensures.named.within c.args.page refl in omega arith

pub returns-in_err-own-clause-reading : goal.returns-in_err-own-clause-reading
returns-in_err-own-clause-reading g c = unread c.in_err-own.ensures.reading c.from_residual-in_err-own.ensures.1

pub returns-then-not-is_blank_page-clause-reading : goal.returns-then-not-is_blank_page-clause-reading
returns-then-not-is_blank_page-clause-reading g c = reads_err c.in_ok-own.ensures.reading.quiet (λ honest is.
    both_ways _ is.1 (ap is_blank (sym (c.lent-bytes.ensures ∙ c.in_ok-own.ensures.lends honest)) ∙ sym c.is_blank_page.ensures ∙ c.if-not-is_blank_page.true))

pub returns-clause-reading : goal.returns-clause-reading
returns-clause-reading g c = reads_ok c.in_ok-own.ensures.reading.passed

pub returns-clause-free : goal.returns-clause-free
returns-clause-free g c = λ honest. search rules

pub returns-in_err-name-clause-told : goal.returns-in_err-name-clause-told
returns-in_err-name-clause-told g c = λ honest listed. name_told _ (txn_pages c.args.txn.now) (over c.args.txn.now (stored c.args.pages.now)) _ _ c.from_residual.ensures.1 (inr (inl listed)) (rw c.requires.long at c.in_err-name.ensures.told)

pub returns-in_err-own-clause-told : goal.returns-in_err-own-clause-told
returns-in_err-own-clause-told g c = λ honest listed. unread_told _ (txn_pages c.args.txn.now) (over c.args.txn.now (stored c.args.pages.now)) c.in_err-own.field-0.0 c.from_residual-in_err-own.ensures.1

pub returns-then-not-is_blank_page-clause-told : goal.returns-then-not-is_blank_page-clause-told
returns-then-not-is_blank_page-clause-told g c = λ honest listed. search rules
