use Rattle.check_command.proofs.Counted.{AreCounted, one}
use Rattle.check_command.proofs.counts.count_blocks.Given as goal

abbrev pub invariant-loop-row : goal.invariant-loop-row
invariant-loop-row l = AreCounted one l.rows l.row-index l.blocks
