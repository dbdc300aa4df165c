use Rattle.std.proofs.Common.{◌≡◌, ◌≤◌, ◌-◌, ◌++◌, take, drop}
use Rattle.desk_store_lists.proofs.districts.Districts.part.Given as goal

abbrev pub invariant-loop-place : goal.invariant-loop-place
invariant-loop-place l =
    record { put : l.part.items ++ take (l.end - l.place) (drop l.place l.self) ≡ take l.count (drop l.first l.self); within : l.place ≤ l.end }

abbrev pub decreases-loop-place : goal.decreases-loop-place
decreases-loop-place l = l.end - l.place
