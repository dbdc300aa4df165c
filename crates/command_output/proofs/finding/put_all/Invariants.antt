use Rattle.{std.proofs.Common.{◌≡◌, ◌++◌, drop}, command_output.specs.Entries.entries_in}
use Rattle.command_output.proofs.finding.put_all.Given as goal

abbrev pub invariant-loop-place : goal.invariant-loop-place
invariant-loop-place l = l.text.items ++ entries_in l.code (drop l.place-index l.places) ≡ l.fn.text.items ++ entries_in l.code l.places
