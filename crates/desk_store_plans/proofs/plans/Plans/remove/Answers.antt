use Rattle.{std.{specs.FinMap.len, proofs.Common.{ap, ◌∙◌}}, desk_store_plans.proofs.Held.{settled_map, held_less}}
use Rattle.desk_store_plans.proofs.plans.Plans.remove.Goals as goal

pub overflow_sub-result : goal.overflow_sub-result
overflow_sub-result c = (held_less (settled_map c.self.inside.pending c.self.invariant c.self.view_is c.in_ok-whole.ensures) (c.self.invariant.count ∙ ap len c.self.view_is) c.requires c.in_ok-without.ensures).some

pub invariant_of-result : goal.invariant_of-result
invariant_of-result c = (held_less (settled_map c.self.inside.pending c.self.invariant c.self.view_is c.in_ok-whole.ensures) (c.self.invariant.count ∙ ap len c.self.view_is) c.requires c.in_ok-without.ensures).held

pub returns : goal.returns
returns c = (held_less (settled_map c.self.inside.pending c.self.invariant c.self.view_is c.in_ok-whole.ensures) (c.self.invariant.count ∙ ap len c.self.view_is) c.requires c.in_ok-without.ensures).map_is
