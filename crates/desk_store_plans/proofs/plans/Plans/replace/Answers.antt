use Rattle.{std.{specs.FinMap.{len, get}, proofs.Common.{IsSome, ap, sym, subst, ◌∙◌}}, desk_store_plans.{specs.Rows.Row, proofs.Held.{settled_map, held_over, laid_over}}}
use Rattle.desk_store_plans.proofs.plans.Plans.replace.Goals as goal
use Rattle.std.specs.FinMap as map_of

pub invariant_of-result : goal.invariant_of-result
invariant_of-result c =
    held_over (settled_map c.self.inside.pending c.self.invariant c.self.view_is c.in_ok-settled.ensures) (c.self.invariant.count ∙ ap len c.self.view_is) c.in_ok-entry.entry
    (subst (λ (e : Row). IsSome (get c.args.self.now e.0)) (sym c.in_ok-entry.ensures.ok) c.requires)

pub returns : goal.returns
returns c =
    laid_over (settled_map c.self.inside.pending c.self.invariant c.self.view_is c.in_ok-settled.ensures) (c.self.invariant.count ∙ ap len c.self.view_is) c.in_ok-entry.entry
    ∙ ap (λ (e : Row). map_of.insert c.args.self.now e.0 e.1) c.in_ok-entry.ensures.ok
