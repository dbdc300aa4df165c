use Rattle.std.{specs.List.count_by, proofs.Common.{◌≡◌, ◌≤◌, take, eqb}}
use Rattle.field_text.proofs.scan.block_bars.Given as goal

abbrev pub invariant-loop-b : goal.invariant-loop-b
invariant-loop-b l = record { bars : l.bars ≡ count_by (λ b. eqb b 124) (take l.b-index l.block); few : l.bars ≤ l.b-index }
