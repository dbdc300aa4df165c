use Rattle.{std.proofs.Common.{arith, ap}, desk_model.{specs.declared.block.BlockRow.BlockRow, proofs.Places.{go_up, go_down, not_there}}}
use Rattle.desk_model.proofs.geography.place_between.Goals as goal

pub loop-low-preserved-then-number-wanted-2 : goal.loop-low-preserved-then-number-wanted-2
loop-low-preserved-then-number-wanted-2 c =
    go_up _ c.requires.rising _ _ _ _ _ c.loop-low.invariant (omega arith) c.index-blocks-middle.is (omega (arith, ap (λ (row : BlockRow). row.id) c.index-blocks-middle.is))

pub loop-low-preserved : goal.loop-low-preserved
loop-low-preserved c =
    go_down _ c.requires.rising _ _ _ _ _ c.loop-low.invariant (omega arith) c.index-blocks-middle.is (omega (arith, ap (λ (row : BlockRow). row.id) c.index-blocks-middle.is))

pub returns-clause-missing : goal.returns-clause-missing
returns-clause-missing c = not_there _ _ _ _ c.loop-low.invariant (omega arith)
