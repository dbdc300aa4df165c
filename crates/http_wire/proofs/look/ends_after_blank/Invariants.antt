use Rattle.{std.proofs.Common.{◌≡◌, drop, false}, http_wire.specs.InTarget.in_blank}
use Rattle.http_wire.proofs.look.ends_after_blank.Given as goal

abbrev pub invariant-loop-i : goal.invariant-loop-i
invariant-loop-i l = in_blank l.has_cr (drop l.i l.bytes) ≡ in_blank false l.bytes
