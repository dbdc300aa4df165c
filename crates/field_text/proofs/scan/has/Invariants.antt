use Rattle.std.proofs.Common.{◌≡◌, false, take, eqb, All}
use Rattle.field_text.proofs.scan.has.Given as goal

abbrev pub invariant-loop-b : goal.invariant-loop-b
invariant-loop-b l = l.found ≡ false → All (λ b. eqb b l.byte ≡ false) (take l.b-index l.block)
