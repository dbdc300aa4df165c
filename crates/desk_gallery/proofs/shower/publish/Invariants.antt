use Rattle.std.proofs.Common.{◌≡◌, drop}
use Rattle.desk_gallery.proofs.shower.publish.Given as goal

abbrev pub invariant-loop : goal.invariant-loop
invariant-loop g l =
    (goal.iterator-loop g).can_next l.iterator' × (goal.iterator-loop g).is_finite l.iterator'
    × (drop l.copies.behind l.copies.log.items ≡ drop l.fn.copies.behind l.fn.copies.log.items)
