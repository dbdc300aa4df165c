use Rattle.{std.proofs.Common.rules, page_btree_puts.proofs.Placed.reached_known}
use Rattle.page_btree_puts.proofs.finger.reach_leaf.Goals as goal

pub returns-then-has-clause-reached : goal.returns-then-has-clause-reached
returns-then-has-clause-reached g c = λ honest stands. reached_known c.args.txn.now _ c.args.finger.now c.args.root c.args.key.now c.requires.root (c.has.ensures.between c.if-has.true) (stands (c.has.ensures.some c.if-has.true))

pub returns-clause-reached : goal.returns-clause-reached
returns-clause-reached g c = λ honest stands. search rules
