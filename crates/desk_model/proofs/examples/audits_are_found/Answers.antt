use Rattle.{std.specs.{Cmp.Lexicographic.nat_list_cmp_total, FinMap.{get-empty, get-insert}}, desk_model.specs.claim.Desk.{Plan, name_cmp}}
use Rattle.desk_model.proofs.examples.audits_are_found.Goals as goal

pub returns : goal.returns
returns c = search (get-insert {X = Plan} nat_list_cmp_total, get-empty {X = Plan} name_cmp)
