use Rattle.check_command.proofs.Counted.{AreCounted, people}
use Rattle.check_command.proofs.counts.count_people.Given as goal

abbrev pub invariant-loop-row : goal.invariant-loop-row
invariant-loop-row l = AreCounted people l.rows l.row-index l.people
