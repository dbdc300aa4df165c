use Rattle.{std.proofs.Common.{arith, ap}, desk_model.{specs.declared.block.BlockRow.BlockRow, proofs.Places.{between_all, go_up, go_down}}}
use Rattle.desk_model.proofs.geography.place_near.Goals as goal

pub upward-requires-clause-between : goal.upward-requires-clause-between
upward-requires-clause-between c =
    go_up _ c.requires _ _ _ _ c.index-blocks-likely.result (between_all _ _) (omega arith) c.index-blocks-likely.is (omega (arith, c.number-number.ensures, c.number-2.ensures, ap (λ (row : BlockRow). row.id) c.index-blocks-likely.is))

pub downward-requires-clause-between : goal.downward-requires-clause-between
downward-requires-clause-between c =
    go_down _ c.requires _ _ _ _ c.index-blocks-likely.result (between_all _ _) (omega arith) c.index-blocks-likely.is (omega (arith, c.number-number.ensures, c.number.ensures, c.number-2.ensures, ap (λ (row : BlockRow). row.id) c.index-blocks-likely.is))
