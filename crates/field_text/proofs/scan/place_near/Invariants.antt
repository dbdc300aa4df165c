use Rattle.std.proofs.Common.{◌≡◌, false, take, eqb, All}
use Rattle.field_text.proofs.scan.place_near.Given as goal

abbrev pub invariant-loop-i : goal.invariant-loop-i
invariant-loop-i l = All (λ b. eqb b l.byte ≡ false) (take l.i l.text)
