use Rattle.{std.proofs.{Common.rules, lemmas.Bool.Decides.nat_tests}, field_text.proofs.TextLemmas.{lines-cut, lines-last, lines-past}}
use Rattle.field_text.proofs.line.first_line.Goals as goal

pub returns-in-Some-clause-line : goal.returns-in-Some-clause-line
returns-in-Some-clause-line c = search (rules, c.in-Some.ensures.0, c.in-Some.ensures.1, c.without_return.ensures, lines-cut)

pub returns-in-None-clause-line : goal.returns-in-None-clause-line
returns-in-None-clause-line c = search (rules, c.if-is_empty.ensures, c.in-None.ensures, nat_tests, lines-last, lines-past)
