use Rattle.{std.proofs.Common.{ℕ, ◌+◌, ◌-◌, ◌/◌, arith, sym, ◌∙◌, rules}, page_btree_node.proofs.{Laws.{found_here, same_key}, Standing.opened}}
use Rattle.page_btree_node.proofs.node_buf.NodeBuf.find.Goals as goal

pub loop-low-init : goal.loop-low-init
loop-low-init c = let n = (opened _ _ _ _ _ c.self.invariant c.self.view_is).count_of in (omega arith, omega arith, λ _ j less. absurd (omega arith), λ _ j le within. absurd (omega arith))

pub returns-in-Equal : goal.returns-in-Equal
returns-in-Equal c = record {
  within = search rules;
  here = sym c.key.ensures.key ∙ same_key c.key.result.now c.args.key.now (sym c.cmp.ensures ∙ c.in-Equal.is);
  place =
      let mid : ℕ = c.loop-low.low + (c.loop-low.high - c.loop-low.low) / 2 in
      λ rises. found_here c.args.self.now.entries c.args.key.now mid rises (omega arith) (sym c.key.ensures.key ∙ same_key c.key.result.now c.args.key.now (sym c.cmp.ensures ∙ c.in-Equal.is));
}
