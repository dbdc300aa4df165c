use Rattle.{std.proofs.Common.{◌≡◌, ◌+◌, ◌≤◌, drop}, http_wire_intake.specs.claim.Lines.lines_end}
use Rattle.http_wire_intake.proofs.lines.lines_end.Given as goal

abbrev pub invariant-loop-i : goal.invariant-loop-i
invariant-loop-i l = record { counted : l.count + lines_end (drop l.i l.bytes) ≡ lines_end l.bytes; few : l.count ≤ l.i }
