use Rattle.{std.proofs.Common.{◌≡◌, ◌+◌, drop}, sector_file.specs.Runs.with_run}
use Rattle.sector_file.proofs.calls.note_run.Given as goal

abbrev pub invariant-loop-k : goal.invariant-loop-k
invariant-loop-k g l = record { noted : with_run (l.first + l.k) (drop l.k l.run) l.log.calls ≡ with_run l.first l.run l.fn.log.calls }
