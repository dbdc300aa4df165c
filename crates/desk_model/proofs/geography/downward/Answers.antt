use Rattle.{std.proofs.Common.{arith, ap}, desk_model.{specs.declared.block.BlockRow.BlockRow, proofs.Places.{go_down, from_at}}}
use Rattle.desk_model.proofs.geography.downward.Goals as goal

pub returns-then-number-wanted : goal.returns-then-number-wanted
returns-then-number-wanted c =
    from_at _ c.requires.rising _ _ _ _ c.index-blocks-at.result c.loop-high.invariant (omega (arith, c.saturating_sub-at.ensures)) c.index-blocks-at.is (omega (arith, c.number.ensures, c.number-wanted.ensures, ap (λ (row : BlockRow). row.id) c.index-blocks-at.is))

pub loop-high-preserved : goal.loop-high-preserved
loop-high-preserved c =
    go_down _ c.requires.rising _ _ _ _ c.index-blocks-at.result c.loop-high.invariant (omega (arith, c.saturating_sub-at.ensures)) c.index-blocks-at.is (omega (arith, c.number.ensures, c.number-wanted.ensures, ap (λ (row : BlockRow). row.id) c.index-blocks-at.is))
