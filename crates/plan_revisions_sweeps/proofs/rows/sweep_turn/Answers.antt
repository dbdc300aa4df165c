use Rattle.{std.{specs.FinMap.remove, proofs.Common.{◌<◌, ◌≤◌, ℕ, List, Some, length, sym, ap, subst, ◌∙◌}}, page_btree.specs.gets.claim.Map.InTxn}
use Rattle.{page_store.specs.claim.Transactions.stored, plan_revisions_sweeps.specs.Finding.IsNextLeft, chunk_table.proofs.Writing.{after_reads, only_read, unread}}
use Rattle.{desk_store_pages.proofs.Writing.{does, told_on}, page_store.proofs.Stops.quiet_more, plan_revisions_sweeps.proofs.Keys.key_short}
use Rattle.plan_revisions_sweeps.proofs.Taken.{turn_none, turn_row, turn_hold, not_found, not_removed, not_released}
use Rattle.plan_revisions_sweeps.specs.declared.leftovers.Left.TheVariants as left
use Rattle.plan_revisions_sweeps.proofs.rows.sweep_turn.Goals as goal

pub returns-in_err-left : goal.returns-in_err-left
returns-in_err-left g c =
    let e = c.in_err-left.field-0.0 in
    let why = c.in_err-left.ensures in
    unread c.from_residual.result e c.requires.begun why.quiet c.from_residual.ensures.1 (not_found c.args.txn.now c.args.pages.now c.next_leftover.new.pages e why.err)

-- ---- nothing is left over
pub returns-in_default : goal.returns-in_default
returns-in_default g c =
    let looks = c.in_ok-left.ensures in
    only_read c.requires.begun looks.quiet (turn_none c.args.running c.next_leftover.new.row.key _ _ _ _ looks c.in_default.is)

-- ---- a row that nothing needs
pub returns-then-not-is_key : goal.returns-then-not-is_key
returns-then-not-is_key g c = only_read c.requires.begun c.in_ok-left.ensures.quiet (λ honest m holds has.
    let key = c.next_leftover.new.row.key in
    let found : IsNextLeft c.args.running key m (Some left.Row) = subst (IsNextLeft c.args.running key m) (c.in-Some.is ∙ ap Some c.in-Row.is) (c.in_ok-left.ensures.there honest m holds has.1.tidy) in
    c.if-not-is_key.ensures (subst (λ (k : List ℕ). (0 < length k) × (length k ≤ 72)) (sym (c.as_slice-key.ensures.bytes ∙ found.key_is))
    (key_short found.row found.fits)))

pub remove-requires-clause-key : goal.remove-requires-clause-key
remove-requires-clause-key g c = c.if-not-is_key.ensures

pub returns-in_err-remove-in-Row : goal.returns-in_err-remove-in-Row
returns-in_err-remove-in-Row g c =
    let d = c.remove.new.pages in
    let e = c.in_err-remove-in-Row.field-0.0 in
    let looks = c.in_ok-left.ensures in
    let why = c.in_err-remove-in-Row.ensures in
    unread c.from_residual-in_err-remove-in-Row.result e (why.pages ∙ c.requires.begun) (quiet_more _ _ d looks.quiet why.reading.quiet) c.from_residual-in_err-remove-in-Row.ensures.1
    (not_removed c.args.running c.next_leftover.new.row.key _ _ _ _ looks d e why.reading.quiet why.reading.err)

pub returns-in_ok-remove-in-Row : goal.returns-in_ok-remove-in-Row
returns-in_ok-remove-in-Row g c =
    let looks = c.in_ok-left.ensures in
    let done = c.in_ok-remove-in-Row.ensures in
    only_read (done.pages ∙ c.requires.begun) (quiet_more _ _ c.remove.new.pages looks.quiet done.reading.quiet)
    (turn_row c.args.running c.next_leftover.new.row.key _ _ _ _ looks c.turns_are_swept.ensures (c.in-Some.is ∙ ap Some c.in-Row.is)
    _ _ done.reading.passed done.pages
    (λ honest m holds. subst (λ (k : List ℕ). InTxn c.remove.new.txn (stored c.next_leftover.new.pages) (remove m k))
    c.as_slice-key.ensures.bytes (done.remove honest m holds).0)
    done.costs.writes done.costs.given)

-- ---- a plan that was taken away holds a chunk
pub returns-in_err-release-in-Holding : goal.returns-in_err-release-in-Holding
returns-in_err-release-in-Holding g c =
    let looks = c.in_ok-left.ensures in
    told_on c.from_residual-in_err-release-in-Holding.result (after_reads _ looks.quiet c.in_err-release-in-Holding.ensures) c.from_residual-in_err-release-in-Holding.ensures.1
    (λ why. not_released c.args.running c.next_leftover.new.row.key _ _ _ _ looks c.in-Holding.plan c.in-Holding.number
    (c.in-Some.is ∙ ap Some c.in-Holding.is) _
    c.held_is_counted_by_holders.ensures c.in_err-release-in-Holding.field-0.0 why.0 why.1)

pub returns-in_ok-release-in-Holding : goal.returns-in_ok-release-in-Holding
returns-in_ok-release-in-Holding g c =
    let looks = c.in_ok-left.ensures in
    does (after_reads _ looks.quiet c.in_ok-release-in-Holding.ensures)
    (turn_hold c.args.running c.next_leftover.new.row.key _ _ _ _ looks c.in-Holding.plan c.in-Holding.number
    (c.in-Some.is ∙ ap Some c.in-Holding.is) _ c.turns_are_swept.ensures _)
