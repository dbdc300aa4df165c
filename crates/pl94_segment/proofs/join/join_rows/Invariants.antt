use Rattle.{std.proofs.Common.{◌≡◌, take, map}, pl94_segment.specs.claim.Join.row_of}
use Rattle.pl94_segment.proofs.join.join_rows.Given as goal

abbrev pub invariant-loop-block : goal.invariant-loop-block
invariant-loop-block l = l.rows.items ≡ map (row_of l.first) (take l.block-index l.blocks)
