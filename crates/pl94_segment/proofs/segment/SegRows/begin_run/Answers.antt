use Rattle.{std.proofs.{Common.rules, lemmas.{Bool.Decides.nat_tests, List.nil_from_length}}, pl94_segment.proofs.RunLemmas.same_begun}
use Rattle.pl94_segment.proofs.segment.SegRows.begin_run.Goals as goal

pub returns : goal.returns
returns c = search (rules, c.is_empty.ensures, c.if-not-is_empty.false, nat_tests, nil_from_length, same_begun)
