use Rattle.{std.proofs.Common.{◌≡◌, ◌++◌, take}, desk_store_lists.specs.Forms.in_runs}
use Rattle.desk_store_lists.proofs.form.append_runs.Given as goal

abbrev pub invariant-loop-place : goal.invariant-loop-place
invariant-loop-place l = l.into.items ≡ l.initial.into.items ++ in_runs (take l.place l.runs)
