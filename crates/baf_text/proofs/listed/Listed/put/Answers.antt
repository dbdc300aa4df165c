use Rattle.{std.proofs.Common.rules, baf_text.proofs.Parts.{length-spread, spread_set, ok_then}}
use Rattle.baf_text.proofs.listed.Listed.put.Goals as goal

pub invariant_of-self : goal.invariant_of-self
invariant_of-self c = search (rules, c.enter.ensures.within, c.requires, c.self.invariant, length-spread)

pub returns : goal.returns
returns c = search (rules, c.requires, c.self.invariant, c.enter.ensures.within, c.enter.ensures.entered, length-spread, ok_then, spread_set)
