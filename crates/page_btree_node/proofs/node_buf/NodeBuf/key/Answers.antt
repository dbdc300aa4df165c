use Rattle.{std.proofs.Common.{◌≤◌, length, arith, sym, ap, subst, ◌∙◌, ℕ}, page_btree_node.proofs.Standing.{held_entry, key_read}}
use Rattle.page_btree_node.proofs.node_buf.NodeBuf.key.Goals as goal

pub offset_bounds-self-inside-i : goal.offset_bounds-self-inside-i
offset_bounds-self-inside-i c = let few = (held_entry _ _ _ _ _ c.args.i c.self.invariant c.self.view_is c.requires).1 in omega arith

pub bounds-self-inside-i : goal.bounds-self-inside-i
bounds-self-inside-i c = let few = (held_entry _ _ _ _ _ c.args.i c.self.invariant c.self.view_is c.requires).1 in omega arith

pub key_in-requires : goal.key_in-requires
key_in-requires c = let h = held_entry _ _ _ _ _ c.args.i c.self.invariant c.self.view_is c.requires in omega (arith, h.0.key, h.0.within, h.2)

pub returns-clause-key : goal.returns-clause-key
returns-clause-key c = c.key_in.ensures ∙ key_read _ _ _ _ (held_entry _ _ _ _ _ c.args.i c.self.invariant c.self.view_is c.requires).0

pub returns-clause-short : goal.returns-clause-short
returns-clause-short c =
    let e = (held_entry _ _ _ _ _ c.args.i c.self.invariant c.self.view_is c.requires).0 in
    let P : ℕ → Type 0 = λ n. n ≤ 72 in
    subst P (sym (ap length (c.key_in.ensures ∙ key_read _ _ _ _ e))) e.entry.0
