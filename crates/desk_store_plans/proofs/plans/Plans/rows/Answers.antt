use Rattle.{std.{specs.FinMap.entries, proofs.Common.{map, ap, sym, ◌∙◌}}, desk_model.specs.claim.Step.plan_row, desk_store_plans.{specs.Tree.rows_of, proofs.AsMap.entries_of}}
use Rattle.desk_store_plans.proofs.Held.{settled_map}
use Rattle.desk_store_plans.proofs.plans.Plans.rows.Goals as goal

pub returns : goal.returns
returns c =
    let are = settled_map c.self.inside.pending c.self.invariant c.self.view_is c.in_ok-whole.ensures in
    c.from_vec.ensures ∙ c.in_ok-lines.ensures ∙ ap (map plan_row) (sym (entries_of (rows_of c.in_ok-whole.whole) are.rising) ∙ ap entries are.map_is)
