use Rattle.{std.{specs.Prelude.insert, proofs.Common.{sym, subst, arith, rules}}, page_btree_node.{specs.claim.Node.IsNode, proofs.PageEdits.inserted_node}}
use Rattle.page_btree_node.proofs.edit.insert_in.Goals as goal

pub returns : goal.returns
returns c = record {
  inserted = λ node is child le at_is.
      let used_is = c.in_ok-used.ensures.end node is le at_is in
      subst (λ p. IsNode p (record node { entries = insert node.entries c.args.index (c.args.key.now, c.args.value.now) })) (sym c.set_count.ensures)
      (inserted_node c.args.page.now node is c.told-page c.args.index c.args.at c.in_ok-used.used at_is used_is (c.args.key.now, c.args.value.now) c.splice.new.page _ le c.requires.entry child (omega arith) c.splice.ensures (omega arith));
  kept = search rules;
}
