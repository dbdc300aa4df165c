use Rattle.std.{specs.Cmp.Lexicographic.pointwise, proofs.Common.{◌≡◌, ◌≤◌, ◌-◌, take, drop, nat_eq}}
use Rattle.desk_store_lists.proofs.districts.Districts.is_same_in.Given as goal

abbrev pub invariant-loop-place : goal.invariant-loop-place
invariant-loop-place l = record {
  left : pointwise nat_eq (take (l.end - l.place) (drop l.place l.self)) (take (l.end - l.place) (drop l.place l.other)) ≡ pointwise nat_eq (take l.count (drop l.first l.self)) (take l.count (drop l.first l.other));
  within : l.place ≤ l.end;
}

abbrev pub decreases-loop-place : goal.decreases-loop-place
decreases-loop-place l = l.end - l.place
