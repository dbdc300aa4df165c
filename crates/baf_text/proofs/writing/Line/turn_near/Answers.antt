use Rattle.{std.proofs.Common.rules, baf_text.proofs.Ends.row_turned}
use Rattle.baf_text.proofs.writing.Line.turn_near.Goals as goal

pub invariant_of-self : goal.invariant_of-self
invariant_of-self g c = search (rules, c.number-self-inside.ensures, c.requires, c.self.invariant.0, c.digit.ensures, c.digit-2.ensures, c.self.invariant.1, row_turned)
