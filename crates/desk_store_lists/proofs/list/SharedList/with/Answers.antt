use Rattle.{std.proofs.Common.{◌<◌, ◌^◌, List, length, length-append, ap, sym, subst, ◌∙◌, rules}, desk_store_lists.specs.Parts.part_of}
use Rattle.desk_store_lists.proofs.list.SharedList.with.Goals as goal

pub with-requires : goal.with-requires
with-requires g c = subst (λ (l : List g.row.T.Denot). length l < 2 ^ 32) (sym c.self.view_is ∙ ap part_of c.in-Some.is) c.requires

pub returns : goal.returns
returns g c = search (rules, c.in_ok-new.ensures.ok)

pub invariant_of-result : goal.invariant_of-result
invariant_of-result g c = search (rules, length-append)
