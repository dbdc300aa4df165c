use Rattle.std.proofs.Common.{◌≡◌, ◌-◌, ◌<◌, ◌≤◌, length, take, drop, replicate}
use Rattle.desk_store_lists.proofs.form.run_end.Given as goal

abbrev pub invariant-loop-end : goal.invariant-loop-end
invariant-loop-end l = record {
  after : l.from < l.end;
  within : l.end ≤ length l.list;
  same : take (l.end - l.from) (drop l.from l.list) ≡ replicate (l.end - l.from) l.district;
}

abbrev pub decreases-loop-end : goal.decreases-loop-end
decreases-loop-end l = length l.list - l.end
