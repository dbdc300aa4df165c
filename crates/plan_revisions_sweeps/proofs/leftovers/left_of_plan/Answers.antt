use Rattle.{std.proofs.Common.{subst, ◌∙◌, arith}, desk_store_rows.specs.{RowKeys.IsKey, claim.Keys.holding}}
use Rattle.{desk_store_pages.proofs.Looking.{both, fails, fails_then, finds, refuses}, plan_revisions_sweeps.proofs.Left.{holding_left, holding_told, holds_none}}
use Rattle.plan_revisions_sweeps.proofs.leftovers.left_of_plan.Goals as goal

pub returns-in_err-first_under : goal.returns-in_err-first_under
returns-in_err-first_under g c = fails c.from_residual.result c.in_err-first_under.ensures c.from_residual.ensures.1 (λ m has. tt)

pub returns-in_default : goal.returns-in_default
returns-in_default g c =
    refuses c.in_ok-first_under.ensures (λ m found has.
    holding_told m c.args.plan (let fits = c.ranges.plan in omega arith) has _ (rw (c.as_slice.ensures.bytes, c.holdings-prefix.ensures, c.if-branch.true) at found)
    (λ plan number is. c.in_default.ensures plan number (c.as_slice-then-branch.ensures.bytes ∙ is)))

pub returns-then-branch : goal.returns-then-branch
returns-then-branch g c = finds c.in_ok-first_under.ensures (λ m found has.
    let is = rw (c.as_slice.ensures.bytes, c.holdings-prefix.ensures, c.if-branch.true) at found in
    let held = c.in-Some.held in
    let told = subst (IsKey (holding held.0 held.1)) c.as_slice-then-branch.ensures.bytes c.in-Some.ensures in
    holding_left m c.args.plan (let fits = c.ranges.plan in omega arith) has c.first_under.new.row is held.0 held.1 told)

pub returns-in_err-left_of_parts : goal.returns-in_err-left_of_parts
returns-in_err-left_of_parts g c = fails_then c.in_ok-first_under.ensures c.from_residual-in_err-left_of_parts.result c.in_err-left_of_parts.ensures c.from_residual-in_err-left_of_parts.ensures.1 (λ m found has. has)

pub returns : goal.returns
returns g c = finds (both c.in_ok-first_under.ensures c.in_ok-left_of_parts.ensures) (λ m found has.
    found.1 has (holds_none m c.args.plan (rw (c.as_slice.ensures.bytes, c.holdings-prefix.ensures, c.if-branch.false) at found.0)))
