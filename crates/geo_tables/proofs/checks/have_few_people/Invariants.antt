use Rattle.{std.proofs.Common.{◌≡◌, ◌<◌, ◌^◌, take, sum_by}, desk_model.specs.declared.block.BlockRow.BlockRow}
use Rattle.geo_tables.proofs.checks.have_few_people.Given as goal

abbrev pub invariant-loop-block : goal.invariant-loop-block
invariant-loop-block l = (l.people ≡ sum_by (λ (b : BlockRow). b.population) (take l.block-index l.blocks)) × (l.people < 2 ^ 32)
