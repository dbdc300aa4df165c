use Rattle.{std.proofs.Common.{◌≡◌, take}, desk_store_lists.specs.Forms.in_runs}
use Rattle.desk_store_lists.proofs.form.are_same_runs.Given as goal

abbrev pub invariant-loop-place : goal.invariant-loop-place
invariant-loop-place l = in_runs (take l.place l.one) ≡ in_runs (take l.place l.other)
