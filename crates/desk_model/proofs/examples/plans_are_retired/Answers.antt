use Rattle.{std.{specs.{Cmp.Lexicographic.nat_list_cmp_total, FinMap.{get-insert, get-empty}}, proofs.Common.{[], ◌∷◌, ap}}, desk_model.specs.Examples.{name_a, plan_of}}
use Rattle.desk_model.{specs.claim.{Desk.{Plan, name_cmp}, Sample.sample_desk}, proofs.Maps.remove_only}
use Rattle.desk_model.specs.declared.reply.Reply.TheVariants as reply
use Rattle.desk_model.proofs.examples.plans_are_retired.Goals as goal

pub returns : goal.returns
returns c = record {
  gone = simp (get-insert {X = Plan} nat_list_cmp_total)
      (ap (λ m. (reply.Retired name_a, record sample_desk { plans = m })) (remove_only name_a (plan_of ((1 ∷ 1 ∷ 2 ∷ 2 ∷ []) ∷ []))));
  missing = simp (get-empty {X = Plan} name_cmp);
}
