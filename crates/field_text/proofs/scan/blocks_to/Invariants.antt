use Rattle.std.proofs.Common.{◌≡◌, ◌-◌, ◌≤◌, false, take, eqb, All, length}
use Rattle.field_text.proofs.scan.blocks_to.Given as goal

abbrev pub invariant-loop-at : goal.invariant-loop-at
invariant-loop-at l = record { within : l.at ≤ length l.text; before : All (λ b. eqb b l.byte ≡ false) (take l.at l.text) }

abbrev pub decreases-loop-at : goal.decreases-loop-at
decreases-loop-at l = length l.text - l.at
