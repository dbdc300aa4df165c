use Rattle.std.proofs.Common.{refl, ◌∙◌}
use Rattle.page_btree.proofs.node.Walking.{ahead_lies, ahead_next}
use Rattle.plan_revisions_sweeps.proofs.pieces.copy_key.Goals as goal

pub returns-in-None : goal.returns-in-None
returns-in-None c = (refl, λ e es ahead. ahead_lies _ _ e es ahead c.in-None.ensures.none)

pub returns-in-Some : goal.returns-in-Some
returns-in-Some c = (refl, λ e es ahead. c.set.ensures ∙ (ahead_next _ _ _ _ e es ahead c.in-Some.ensures.some).key_is)
