use Rattle.{std.proofs.Common.{◌+◌, refl, arith, rules}, page_btree_node.{specs.claim.Entries.size_of, proofs.PageEdits.{replaced_here, replaced_node, replaced_size}}}
use Rattle.page_btree_node.proofs.edit.replace_in.Goals as goal

pub returns-then-at-key : goal.returns-then-at-key
returns-then-at-key c = record {
  replaced = λ node is child within at_is end_is.
      replaced_here c.args.page.now node is c.told-page c.args.index c.args.at (4 + size_of node.entries) at_is refl c.args.end end_is within (c.args.key.now, c.args.value.now) c.put_entry.new.bytes c.requires.entry child (omega arith) c.put_entry.ensures;
  kept = search rules;
}

pub returns-then-at-key-gt-PAGE_SIZE : goal.returns-then-at-key-gt-PAGE_SIZE
returns-then-at-key-gt-PAGE_SIZE c = record {
  replaced = λ node is child within at_is end_is. (
    search rules,
    λ fits.
        let used_is = c.in_ok-used.ensures.end node is (omega arith) end_is in
        let size = replaced_size _ node is c.told-page c.args.index _ c.in_ok-used.used at_is used_is c.args.end end_is within (c.args.key.now, c.args.value.now) in
        omega (arith, c.requires.part.order, c.in_ok-used.ensures.order.0),
  );
  kept = search rules;
}

pub returns : goal.returns
returns c = record {
  replaced = λ node is child within at_is end_is.
      let used_is = c.in_ok-used.ensures.end node is (omega arith) end_is in
      replaced_node c.args.page.now node is c.told-page c.args.index c.args.at c.in_ok-used.used at_is used_is c.args.end end_is within (c.args.key.now, c.args.value.now) c.splice.new.page c.requires.entry child (omega arith) c.splice.ensures;
  kept = search rules;
}
