use Rattle.std.{specs.List.count_by, proofs.Common.{◌≡◌, ◌-◌, ◌≤◌, take, eqb, length}}
use Rattle.field_text.proofs.scan.count_bars.Given as goal

abbrev pub invariant-loop-at : goal.invariant-loop-at
invariant-loop-at l = record { within : l.at ≤ length l.line; bars : l.bars ≡ count_by (λ b. eqb b 124) (take l.at l.line); few : l.bars ≤ l.at }

abbrev pub decreases-loop-at : goal.decreases-loop-at
decreases-loop-at l = length l.line - l.at
