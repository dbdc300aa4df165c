use Rattle.{std.{specs.FinMap.len, proofs.Common.{◌≡◌, rules, ap, ◌∙◌}}, desk_store_plans.{specs.{Held.IsSettled, Tree.rows_of}, proofs.AsMap.{AreMap, as_map}}}
use Rattle.desk_store_plans.proofs.Held.{settled_map, held_whole, on_ok}
use Rattle.desk_store_plans.proofs.plans.Plans.settle.Goals as goal

pub invariant_of-self : goal.invariant_of-self
invariant_of-self c =
    held_whole (settled_map c.self.inside.pending c.self.invariant c.self.view_is
    (on_ok c.settle_in.result (IsSettled c.self.inside.pending (rows_of c.self.inside.root) (rows_of c.settle_in.new.root)) c.if-is_ok.ensures.value c.settle_in.ensures.put))
    (c.self.invariant.count ∙ ap len c.self.view_is)

pub returns-then-is_ok : goal.returns-then-is_ok
returns-then-is_ok c =
    let are : AreMap (rows_of c.settle_in.new.root) c.args.self.now = settled_map c.self.inside.pending c.self.invariant c.self.view_is
    (on_ok c.settle_in.result (IsSettled c.self.inside.pending (rows_of c.self.inside.root) (rows_of c.settle_in.new.root)) c.if-is_ok.ensures.value c.settle_in.ensures.put) in
    let is : as_map (rows_of c.settle_in.new.root) ≡ c.args.self.now = are.map_is in
    search rules
