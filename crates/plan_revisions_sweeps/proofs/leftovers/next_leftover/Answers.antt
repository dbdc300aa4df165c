use Rattle.{std.proofs.Common.subst, plan_revisions_sweeps.specs.Finding.{IsPlanLeft, IsLoadLeft}, desk_store_pages.proofs.Looking.{both, fails, fails_then, finds}}
use Rattle.plan_revisions_sweeps.proofs.Left.{plan_next}
use Rattle.plan_revisions_sweeps.proofs.leftovers.next_leftover.Goals as goal

pub returns-in_err-left : goal.returns-in_err-left
returns-in_err-left g c = fails c.from_residual.result c.in_err-left.ensures c.from_residual.ensures.1 (λ m tidy. tidy)

pub returns-in-Some : goal.returns-in-Some
returns-in-Some g c = finds c.in_ok-left.ensures (λ m found tidy.
    let key = c.left_of_plans.new.row.key in
    plan_next c.args.running m key c.in-Some.left (subst (IsPlanLeft key m) c.in-Some.is (found tidy)))

pub returns-in_err-left_of_loads : goal.returns-in_err-left_of_loads
returns-in_err-left_of_loads g c = fails_then c.in_ok-left.ensures c.from_residual-in_err-left_of_loads.result c.in_err-left_of_loads.ensures c.from_residual-in_err-left_of_loads.ensures.1 (λ m found tidy. tidy)

pub returns-then-branch : goal.returns-then-branch
returns-then-branch g c = finds (both c.in_ok-left.ensures c.in_ok-left_of_loads.ensures) (λ m found tidy.
    subst (IsLoadLeft c.args.running c.left_of_loads.new.row.key m) c.if-branch.true (found.1 tidy))

pub returns : goal.returns
returns g c = finds (both c.in_ok-left.ensures c.in_ok-left_of_loads.ensures) (λ m found tidy. record {
  plans = subst (IsPlanLeft c.left_of_plans.new.row.key m) c.in_default.is (found.0 tidy);
  loads = subst (IsLoadLeft c.args.running c.left_of_loads.new.row.key m) c.if-branch.false (found.1 tidy);
})
