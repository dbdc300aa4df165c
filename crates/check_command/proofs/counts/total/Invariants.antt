use Rattle.{std.proofs.Common.{◌≡◌, take, sum_by}, desk_model.specs.declared.block.BlockRow.BlockRow}
use Rattle.check_command.proofs.counts.total.Given as goal

abbrev pub invariant-loop-row : goal.invariant-loop-row
invariant-loop-row l = l.people ≡ sum_by (λ (b : BlockRow). b.population) (take l.row-index l.rows)
