use Rattle.{std.proofs.Common.rules, pl94_segment.proofs.SegLemmas.judges}
use Rattle.pl94_segment.proofs.segment.SegRows.judge_line.Goals as goal

pub returns-in-Ok : goal.returns-in-Ok
returns-in-Ok c = search (rules, c.in-Ok.ensures, c.take.ensures, judges)
