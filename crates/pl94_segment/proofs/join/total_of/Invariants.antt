use Rattle.{std.proofs.Common.{◌≡◌, ◌*◌, ◌^◌, ◌≤◌, take, sum_by}, desk_model.specs.declared.block.BlockRow.BlockRow}
use Rattle.pl94_segment.proofs.join.total_of.Given as goal

abbrev pub invariant-loop-row : goal.invariant-loop-row
invariant-loop-row l =
    record { total : l.total ≡ sum_by (λ (b : BlockRow). b.population) (take l.row-index l.rows); small : l.total ≤ l.row-index * 2 ^ 32 }
