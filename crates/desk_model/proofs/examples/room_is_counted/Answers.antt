use Rattle.{std.specs.{Cmp.Lexicographic.nat_list_cmp_total, FinMap.get-insert}, desk_model.specs.claim.Desk.Plan}
use Rattle.desk_model.proofs.examples.room_is_counted.Goals as goal

pub returns : goal.returns
returns c = search (get-insert {X = Plan} nat_list_cmp_total)
