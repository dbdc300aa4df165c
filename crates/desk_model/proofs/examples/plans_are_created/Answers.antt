use Rattle.std.{specs.{Cmp.Lexicographic.nat_list_cmp_total, FinMap.{get-empty, get-insert, len-empty, entries-insert}}, proofs.Common.{ap, map, refl, []}}
use Rattle.desk_model.{specs.{Examples.{name_a, plan_of}, claim.{Desk.{Plan, name_cmp}, Step.{says, plan_row}}}, proofs.Maps.entries-empty}
use Rattle.std.specs.FinMap as map_of
use Rattle.desk_model.specs.declared.reply.Reply.TheVariants as reply
use Rattle.desk_model.proofs.examples.plans_are_created.Goals as goal

pub returns : goal.returns
returns c = record {
  none = ap (λ es. says (reply.Plans (map plan_row es))) entries-empty;
  made = simp (get-empty {X = Plan} name_cmp, len-empty name_cmp Plan);
  again = simp (get-insert {X = Plan} nat_list_cmp_total);
  listed = rw (entries-insert nat_list_cmp_total map_of.empty name_a (plan_of []), entries-empty) refl;
  no_geography = refl;
}
