use Rattle.{std.{specs.{Cmp.Lexicographic.nat_list_cmp_total, FinMap.get-insert}, proofs.Common.{[], ◌∷◌, ap}}, desk_model.specs.Examples.{name_a, plan_of, desk_of}}
use Rattle.desk_model.{specs.claim.Desk.Plan, proofs.Maps.insert_again}
use Rattle.std.specs.FinMap as map_of
use Rattle.desk_model.specs.declared.reply.Reply.TheVariants as reply
use Rattle.desk_model.proofs.examples.counties_are_patched.Goals as goal

pub returns : goal.returns
returns c = record {
  made = simp (get-insert {X = Plan} nat_list_cmp_total) (search insert_again);
  first = simp (get-insert {X = Plan} nat_list_cmp_total)
      (ap (λ m. (reply.Created name_a 1, record (desk_of (plan_of [])) { plans = m })) (insert_again map_of.empty name_a (plan_of []) (plan_of ((0 ∷ 0 ∷ 1 ∷ 1 ∷ []) ∷ []))));
  part = simp (get-insert {X = Plan} nat_list_cmp_total);
  stale = simp (get-insert {X = Plan} nat_list_cmp_total);
}
