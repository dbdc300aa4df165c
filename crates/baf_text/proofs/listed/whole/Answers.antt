use Rattle.{std.proofs.Common.rules, baf_text.proofs.Parts.whole_all}
use Rattle.baf_text.proofs.listed.whole.Goals as goal

pub returns : goal.returns
returns c = search (rules, c.part-first.ensures, c.loop-i.invariant, whole_all)
