use Rattle.{std.proofs.Common.{◌≡◌, drop}, http_wire.specs.claim.Target.after_authority}
use Rattle.http_wire.proofs.target.after_authority.Given as goal

abbrev pub invariant-loop-i : goal.invariant-loop-i
invariant-loop-i l = after_authority (drop l.i l.bytes) ≡ after_authority l.bytes
