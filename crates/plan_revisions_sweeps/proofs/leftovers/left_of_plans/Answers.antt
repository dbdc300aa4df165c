use Rattle.{std.proofs.Common.{sym, ◌∙◌}, desk_store_rows.specs.claim.Keys.retired, desk_store_pages.proofs.Looking.{both, fails, fails_then, finds, refuses}}
use Rattle.plan_revisions_sweeps.proofs.Left.{mark_of, retired_told, no_retired}
use Rattle.plan_revisions_sweeps.proofs.leftovers.left_of_plans.Goals as goal

pub returns-in_err-first_mark : goal.returns-in_err-first_mark
returns-in_err-first_mark g c = fails c.from_residual.result c.in_err-first_mark.ensures c.from_residual.ensures.1 (λ m tidy. tt)

pub returns-then-not-branch : goal.returns-then-not-branch
returns-then-not-branch g c = finds c.in_ok-first_mark.ensures (λ m found tidy.
    no_retired m (rw (c.as_slice.ensures.bytes, c.all_retired-prefix.ensures, c.as_slice-2.ensures.bytes, c.counters-none.ensures, c.if-not-branch.true) at found))

pub returns-in_default : goal.returns-in_default
returns-in_default g c =
    refuses c.in_ok-first_mark.ensures (λ m found tidy. retired_told m tidy.rows _ _ (rw (c.as_slice.ensures.bytes, c.all_retired-prefix.ensures, c.if-not-branch.false) at found)
    (λ plan is. c.in_default.ensures plan (c.as_slice-3.ensures.bytes ∙ is)))

pub returns-in_err-left : goal.returns-in_err-left
returns-in_err-left g c = fails_then c.in_ok-first_mark.ensures c.from_residual-in_err-left.result c.in_err-left.ensures c.from_residual-in_err-left.ensures.1 (λ m found tidy.
    let told = sym c.as_slice-3.ensures.bytes ∙ c.in-Some.ensures in
    (tidy, mark_of m (retired c.in-Some.plan) _ _ _ told (rw (c.as_slice.ensures.bytes, c.all_retired-prefix.ensures, c.if-not-branch.false) at found)))

pub returns : goal.returns
returns g c = finds (both c.in_ok-first_mark.ensures c.in_ok-left.ensures) (λ m found tidy.
    let told = sym c.as_slice-3.ensures.bytes ∙ c.in-Some.ensures in
    let is = rw (c.as_slice.ensures.bytes, c.all_retired-prefix.ensures, c.if-not-branch.false) at found.0 in
    found.1 (tidy, mark_of m (retired c.in-Some.plan) _ _ _ told is))
