use Rattle.{std.{specs.FinMap.get, proofs.Common.{inl, inr, sym, ap, subst, ◌∙◌}}, plan_revisions_sweeps.specs.Checks.IsMarkedAs}
use Rattle.desk_store_pages.proofs.Looking.{both, fails, fails_then, finds, refuses}
use Rattle.plan_revisions_sweeps.proofs.names.check_name.Goals as goal

pub returns-in_err-is_marked : goal.returns-in_err-is_marked
returns-in_err-is_marked g c = fails c.from_residual.result c.in_err-is_marked.ensures c.from_residual.ensures.1 (λ m is. tt)

pub returns-then-branch : goal.returns-then-branch
returns-then-branch g c = finds c.in_ok-is_marked.ensures (λ m found. inl (ap (get m) (sym c.holding.ensures) ∙ subst (IsMarkedAs c.holding.result m) c.if-branch.true found))

pub returns-in_err-is_marked-2 : goal.returns-in_err-is_marked-2
returns-in_err-is_marked-2 g c = fails_then c.in_ok-is_marked.ensures c.from_residual-in_err-is_marked-2.result c.in_err-is_marked-2.ensures c.from_residual-in_err-is_marked-2.ensures.1 (λ m found is. tt)

pub returns-then-branch-2 : goal.returns-then-branch-2
returns-then-branch-2 g c = finds (both c.in_ok-is_marked.ensures c.in_ok-is_marked-2.ensures) (λ m found.
    inr (ap (get m) (sym c.retired.ensures) ∙ subst (IsMarkedAs c.retired.result m) c.if-branch-2.true found.1))

pub returns : goal.returns
returns g c = refuses (both c.in_ok-is_marked.ensures c.in_ok-is_marked-2.ensures) (λ m found is. elim is [
  | inl held ↦ subst (IsMarkedAs c.holding.result m) c.if-branch.false found.0 (ap (get m) c.holding.ensures ∙ held)
  | inr gone ↦ subst (IsMarkedAs c.retired.result m) c.if-branch-2.false found.1 (ap (get m) c.retired.ensures ∙ gone)
])
