use Rattle.{std.proofs.Common.rules, pl94_geo.proofs.HoldingLemmas.{judges, entries_passed}}
use Rattle.pl94_geo.proofs.header.Header.judge_line.Goals as goal

pub returns-in-Ok-Some : goal.returns-in-Ok-Some
returns-in-Ok-Some c = search (rules, c.in-Ok-Some.field-0-is, c.in-Ok-Some.ensures.entry, c.take.ensures, judges)

pub returns-in-Ok-None : goal.returns-in-Ok-None
returns-in-Ok-None c = search (rules, c.in-Ok-None.field-0-is, c.in-Ok-None.ensures.entry, entries_passed)
