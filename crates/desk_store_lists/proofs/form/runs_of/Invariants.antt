use Rattle.{std.proofs.Common.{◌≡◌, ◌-◌, ◌≤◌, length, take}, desk_store_lists.specs.Forms.in_runs}
use Rattle.desk_store_lists.proofs.form.runs_of.Given as goal

abbrev pub invariant-loop-from : goal.invariant-loop-from
invariant-loop-from l = record { within : l.from ≤ length l.list; said : in_runs l.runs.items ≡ take l.from l.list }

abbrev pub decreases-loop-from : goal.decreases-loop-from
decreases-loop-from l = length l.list - l.from
