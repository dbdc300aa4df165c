use Rattle.{std.{specs.Ordering.is_eq, proofs.Common.{Some, refl, ap, sym, ◌∙◌}}, desk_store_plans.{specs.Rows.Row, proofs.AsMap.looked_up}}
use Rattle.desk_store_plans.proofs.Held.{named_pending, none_pending, found_pending, looked_after}
use Rattle.desk_store_plans.proofs.plans.Plans.get.Goals as goal

pub returns-in_default : goal.returns-in_default
returns-in_default c =
    let is = looked_up (none_pending c.self.invariant c.self.view_is c.in_default.is) c.found.result c.found.ensures in
    record { found = is.found; named = is.named; missing = is.missing }

pub returns-then-is_eq-clause-found : goal.returns-then-is_eq-clause-found
returns-then-is_eq-clause-found c =
    found_pending c.self.invariant c.self.view_is c.in-Some.entry c.args.name.now c.in-Some.is (sym (ap is_eq c.order.ensures) ∙ sym c.is_eq.ensures ∙ c.if-is_eq.true)
    ∙ ap (λ (e : Row). Some e.1) (sym c.deref.ensures)

pub returns-then-is_eq-clause-named : goal.returns-then-is_eq-clause-named
returns-then-is_eq-clause-named c =
    ap (λ (e : Row). e.0) c.deref.ensures ∙ named_pending c.args.name.now c.in-Some.entry.value (sym (ap is_eq c.order.ensures) ∙ sym c.is_eq.ensures ∙ c.if-is_eq.true)

pub returns-clause-found : goal.returns-clause-found
returns-clause-found c = (looked_after c.self.invariant c.self.view_is c.in-Some.entry c.args.name.now c.in-Some.is
    (sym (ap is_eq c.order.ensures) ∙ sym c.is_eq.ensures ∙ c.if-is_eq.false) c.found-2.result c.found-2.ensures).found

pub returns-clause-missing : goal.returns-clause-missing
returns-clause-missing c = (looked_after c.self.invariant c.self.view_is c.in-Some.entry c.args.name.now c.in-Some.is
    (sym (ap is_eq c.order.ensures) ∙ sym c.is_eq.ensures ∙ c.if-is_eq.false) c.found-2.result c.found-2.ensures).missing

pub returns-clause-named : goal.returns-clause-named
returns-clause-named c = (looked_up (record { rising = c.self.invariant.rising; map_is = refl }) c.found-2.result c.found-2.ensures).named
