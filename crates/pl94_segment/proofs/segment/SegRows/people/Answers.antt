use Rattle.{std.proofs.Common.{Some, None, ◌∙◌}, pl94_segment.proofs.RunLemmas.people_by}
use Rattle.pl94_segment.proofs.segment.SegRows.people.Goals as goal

pub returns-in-Some : goal.returns-in-Some
returns-in-Some c = people_by c.args.self.now c.args.number (Some c.in-Some.people) c.in-Some.ensures

pub returns-in-None : goal.returns-in-None
returns-in-None c = c.copied.ensures ∙ c.get.ensures.value ∙ people_by c.args.self.now c.args.number None c.in-None.ensures
