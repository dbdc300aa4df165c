use Rattle.{std.proofs.Common.{◌≤◌, length, arith, sym, ap, subst, ◌∙◌, ℕ}, page_btree_node.proofs.Standing.{opened, held_entry, value_read, nothing}}
use Rattle.page_btree_node.proofs.node_buf.NodeBuf.value.Goals as goal

pub offset_bounds-self-inside-i : goal.offset_bounds-self-inside-i
offset_bounds-self-inside-i c = let few = (held_entry _ _ _ _ _ c.args.i c.self.invariant c.self.view_is c.requires).1 in omega arith

pub bounds-self-inside-i : goal.bounds-self-inside-i
bounds-self-inside-i c = let few = (held_entry _ _ _ _ _ c.args.i c.self.invariant c.self.view_is c.requires).1 in omega arith

pub value_in-requires : goal.value_in-requires
value_in-requires c = let h = held_entry _ _ _ _ _ c.args.i c.self.invariant c.self.view_is c.requires in omega (arith, h.0.key, h.0.value, h.0.within, h.2)

pub returns : goal.returns
returns c =
    let e = (held_entry _ _ _ _ _ c.args.i c.self.invariant c.self.view_is c.requires).0 in
    let P : ℕ → Type 0 = λ n. n ≤ 1024 in
    let is = c.value_in.ensures ∙ value_read _ _ _ _ e in
    record {
      value = is;
      short = subst P (sym (ap length is)) e.entry.1;
      child = λ inner.
          let o = opened _ _ _ _ _ c.self.invariant c.self.view_is in
          ap length is ∙ o.stands.shape.children (let same = o.level_of in omega arith) c.args.i nothing c.requires;
    }
