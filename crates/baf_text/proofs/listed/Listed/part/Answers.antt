use Rattle.{std.proofs.Common.rules, baf_text.proofs.Parts.is_part}
use Rattle.baf_text.proofs.listed.Listed.part.Goals as goal

pub returns : goal.returns
returns c = search (rules, is_part c.self.inside.first c.self.inside.part.items c.self.inside.count c.self.invariant)
