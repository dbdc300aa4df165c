use Rattle.{std.proofs.Common.rules, page_btree_removes.proofs.Spares.leaf_taken}
use Rattle.page_btree_removes.proofs.takes.take_in_place.Goals as goal

pub returns-clause-taken : goal.returns-clause-taken
returns-clause-taken c = leaf_taken c.edit.result _ _ c.args.txn.now c.edit.new.self c.args.page c.args.key.now c.edit.ensures.edited c.edit.ensures.free (λ a b r s. search rules)
