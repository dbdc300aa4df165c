use Rattle.std.proofs.Common.{◌≡◌, [], drop}
use Rattle.desk_gallery.proofs.shower.push.Given as goal

abbrev pub invariant-loop : goal.invariant-loop
invariant-loop g l =
    (goal.iterator-loop g).can_next l.iterator' × (goal.iterator-loop g).is_finite l.iterator'
    × (l.shelf ≡ l.fn.shelf) × (l.copies.desk ≡ l.fn.copies.desk) × (drop l.copies.behind l.copies.log.items ≡ [])
