use Rattle.{std.specs.{Cmp.Lexicographic.nat_list_cmp_total, FinMap.{get-insert, get-empty, len-insert, len-empty}}, desk_model.specs.claim.Desk.{Plan, name_cmp}}
use Rattle.desk_model.proofs.Maps.{insert_again}
use Rattle.desk_model.proofs.examples.plans_are_forked.Goals as goal

pub returns : goal.returns
returns c = search (get-insert {X = Plan} nat_list_cmp_total, get-empty {X = Plan} name_cmp, len-insert {X = Plan} nat_list_cmp_total, len-empty name_cmp Plan, insert_again)
