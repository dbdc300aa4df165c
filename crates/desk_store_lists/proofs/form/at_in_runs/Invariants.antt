use Rattle.{std.proofs.Common.{◌≡◌, drop, get_or}, desk_store_lists.specs.Forms.in_runs}
use Rattle.desk_store_lists.proofs.form.at_in_runs.Given as goal

abbrev pub invariant-loop-k : goal.invariant-loop-k
invariant-loop-k l = get_or (in_runs (drop l.k l.runs)) l.left 0 ≡ get_or (in_runs l.runs) l.fn.place 0
