use Rattle.{std.proofs.Common.{arith, ap}, desk_model.{specs.declared.block.BlockRow.BlockRow, proofs.Places.{up_to, go_up}}}
use Rattle.desk_model.proofs.geography.upward.Goals as goal

pub returns-then-number-wanted : goal.returns-then-number-wanted
returns-then-number-wanted c =
    up_to _ c.requires.rising _ _ _ _ c.index-blocks-at.result c.loop-at.invariant.between (omega arith) c.index-blocks-at.is (omega (arith, c.number.ensures, c.number-wanted.ensures, ap (λ (row : BlockRow). row.id) c.index-blocks-at.is))

pub loop-at-preserved : goal.loop-at-preserved
loop-at-preserved c = record {
  between = go_up _ c.requires.rising _ _ _ _ c.index-blocks-at.result c.loop-at.invariant.between (omega arith) c.index-blocks-at.is (omega (arith, c.number.ensures, c.number-wanted.ensures, ap (λ (row : BlockRow). row.id) c.index-blocks-at.is));
  some = omega (arith, c.saturating_mul-step.ensures);
}
