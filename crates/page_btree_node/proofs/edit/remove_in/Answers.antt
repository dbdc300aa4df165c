use Rattle.{std.{specs.Prelude.remove, proofs.Common.{◌+◌, refl, sym, subst, arith}}, page_btree_node.{specs.claim.{Entries.size_of, Node.IsNode}, proofs.PageEdits.removed_node}}
use Rattle.page_btree_node.proofs.edit.remove_in.Goals as goal

pub returns : goal.returns
returns c = λ node i is within at_is end_is.
    let done = removed_node c.args.page.now node is c.told-page i c.args.at (4 + size_of node.entries) at_is refl c.args.end end_is within 4096 c.move_bytes.new.bytes _ (omega arith) c.move_bytes.ensures (omega arith) in
    (subst (λ p. IsNode p (record node { entries = remove node.entries i })) (sym c.set_count.ensures) done.0, done.1)
