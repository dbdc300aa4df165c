use Rattle.{std.proofs.Common.{◌≡◌, take, sum_by}, desk_model.specs.declared.block.BlockRow.BlockRow}
use Rattle.audit_population.proofs.people.total.Given as goal

abbrev pub invariant-loop-block : goal.invariant-loop-block
invariant-loop-block l = l.people ≡ sum_by (λ (b : BlockRow). b.population) (take l.block-index l.blocks)
