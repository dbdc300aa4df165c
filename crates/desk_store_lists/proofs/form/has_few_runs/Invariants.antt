use Rattle.std.proofs.Common.{◌-◌, ◌≤◌, length}
use Rattle.desk_store_lists.proofs.form.has_few_runs.Given as goal

abbrev pub invariant-loop-from : goal.invariant-loop-from
invariant-loop-from l = l.number ≤ 64

abbrev pub decreases-loop-from : goal.decreases-loop-from
decreases-loop-from l = length l.list - l.from
