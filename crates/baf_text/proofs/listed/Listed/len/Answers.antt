use Rattle.{std.proofs.Common.{length, ap, sym, ◌∙◌}, baf_text.proofs.Parts.length-spread}
use Rattle.baf_text.proofs.listed.Listed.len.Goals as goal

pub returns : goal.returns
returns c = sym (length-spread c.self.inside.first c.self.inside.part.items c.self.inside.count) ∙ ap length c.self.view_is
