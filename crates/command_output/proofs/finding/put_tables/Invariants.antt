use Rattle.{std.proofs.Common.{◌≡◌, ◌++◌, drop}, command_output.specs.Entries.all_in}
use Rattle.command_output.proofs.finding.put_tables.Given as goal

abbrev pub invariant-loop-place : goal.invariant-loop-place
invariant-loop-place l = l.text.items ++ all_in (drop l.place-index l.places) ≡ l.fn.text.items ++ all_in l.places
