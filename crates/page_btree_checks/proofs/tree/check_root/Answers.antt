use Rattle.{std.{specs.Prelude.None, proofs.Common.{[], inl, inr, refl, ◌∙◌, arith, rules}}, page_store.specs.claim.Transactions.{stored, txn_pages, over}}
use Rattle.{page_btree_checks.proofs.{Children.can_name_root, Errors.{unread, unsound_more}, Faults.{place_root, unread_told}}, page_store.proofs.Stops.{quiet_none, passed_none}}
use Rattle.page_btree_gets.proofs.Outcomes.{reads_ok, reads_err, reads_after}
use Rattle.page_btree_checks.proofs.tree.check_root.Goals as goal

pub returns-then-root-eq0-clause-reading : goal.returns-then-root-eq0-clause-reading
returns-then-root-eq0-clause-reading g c = reads_ok (passed_none c.args.pages.now)

pub returns-then-root-eq0-clause-walked : goal.returns-then-root-eq0-clause-walked
returns-then-root-eq0-clause-walked g c = λ honest. inl (c.if-root-eq0.true, refl)

pub returns-in_err-own-clause-reading : goal.returns-in_err-own-clause-reading
returns-in_err-own-clause-reading g c = unread c.in_err-own.ensures.reading c.from_residual.ensures.1

pub returns-clause-reading : goal.returns-clause-reading
returns-clause-reading g c = reads_after c.in_ok-own.ensures.reading.passed c.check_tree.ensures.reading (λ e why.
    unsound_more c.in_ok-own.ensures.reading.passed c.check_tree.ensures.reading.quiet e why (λ honest is. elim is [
      | inl none ↦ absurd (c.if-root-eq0.false none)
      | inr w ↦ search rules
    ]))

pub returns-clause-walked : goal.returns-clause-walked
returns-clause-walked g c = λ honest. search rules

pub returns-then-root-page_count-clause-reading : goal.returns-then-root-page_count-clause-reading
returns-then-root-page_count-clause-reading g c = reads_err (quiet_none c.args.pages.now) (λ honest is. elim is [
  | inl none ↦ c.if-root-eq0.false none
  | inr w ↦ (let lt = (can_name_root _ _ _ _ _ _ w.2).0 in let n = c.page_count.ensures in omega arith)
])

pub returns-in_err-own-clause-told : goal.returns-in_err-own-clause-told
returns-in_err-own-clause-told g c = λ honest root_is. unread_told _ (txn_pages c.args.txn.now) (over c.args.txn.now (stored c.args.pages.now)) c.in_err-own.field-0.0 c.from_residual.ensures.1

pub returns-then-root-page_count-clause-told : goal.returns-then-root-page_count-clause-told
returns-then-root-page_count-clause-told g c = λ honest root_is. (let n = c.page_count.ensures in omega arith, inr (inr (inl root_is)))

pub returns-then-level-gt5-clause-told : goal.returns-then-level-gt5-clause-told
returns-then-level-gt5-clause-told g c = λ honest root_is.
    let level = c.level_of-level.result in
    let told = rw (c.lent.ensures ∙ c.in_ok-own.ensures.lends honest) at c.level_of-level.ensures.level in
    (level, [], None, place_root _ _ level root_is told, λ node is. let same = told node is in let high = c.if-level-gt5.true in omega arith)

pub returns-clause-told : goal.returns-clause-told
returns-clause-told g c = λ honest root_is.
    let before = c.check_tree.ensures.reading.quiet.honest honest in
    let same = c.in_ok-own.ensures.reading.quiet.same before in
    let told = rw (c.lent.ensures ∙ c.in_ok-own.ensures.lends before) at c.level_of-level.ensures.level in
    rw same at (c.check_tree.ensures.told honest (rw same (place_root _ _ c.level_of-level.result root_is told)))
