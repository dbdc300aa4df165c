use Rattle.{std.proofs.Common.{◌≡◌, drop}, http_wire_intake.specs.claim.Lines.head_lines}
use Rattle.http_wire_intake.proofs.lines.head_lines.Given as goal

abbrev pub invariant-loop-i : goal.invariant-loop-i
invariant-loop-i l = head_lines (drop l.i l.bytes) ≡ head_lines l.bytes
