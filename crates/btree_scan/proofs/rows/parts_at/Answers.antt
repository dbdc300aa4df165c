use Rattle.std.proofs.Common.{rules}
use Rattle.page_btree.proofs.node.Walking.{ahead_next}
use Rattle.btree_scan.proofs.rows.parts_at.Goals as goal

pub returns-in-Some-clause-taken : goal.returns-in-Some-clause-taken
returns-in-Some-clause-taken c = λ e es is. search (rules, ahead_next _ _ _ _ e es is c.in-Some.ensures.some)
