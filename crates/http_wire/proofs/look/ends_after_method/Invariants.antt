use Rattle.{std.proofs.Common.{◌≡◌, drop, nat_lt, false}, http_wire.specs.InTarget.in_method}
use Rattle.http_wire.proofs.look.ends_after_method.Given as goal

abbrev pub invariant-loop-i : goal.invariant-loop-i
invariant-loop-i l = in_method (nat_lt 0 l.i) (drop l.i l.bytes) ≡ in_method false l.bytes
