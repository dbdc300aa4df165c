use Rattle.{std.{specs.List.copy_within, proofs.{Common.{◌≡◌, ◌+◌, ◌≤◌, length, get_or, set, arith, ap, ◌∙◌}, lemmas.List.length-set}}, page_btree_node.specs.claim.Entries.size_of}
use Rattle.page_btree_node.proofs.{Editing.{closed, bounds_of, marks_rise, mark_most, has_entry_at, set_stands}, Standing.{Stands, to_held, opened}}
use Rattle.page_btree_node.proofs.node_buf.NodeBuf.set_entry.Goals as goal

pub offset_bounds-self-inside-i : goal.offset_bounds-self-inside-i
offset_bounds-self-inside-i c = let o = opened _ _ _ _ _ c.self.invariant c.self.view_is in let few = o.stands.few in let within = c.requires.within in omega arith

pub bounds-self-inside-i : goal.bounds-self-inside-i
bounds-self-inside-i c = let o = opened _ _ _ _ _ c.self.invariant c.self.view_is in let few = o.stands.few in let within = c.requires.within in omega arith

pub overflow_add-end : goal.overflow_add-end
overflow_add-end c = let o = opened _ _ _ _ _ c.self.invariant c.self.view_is in let few = o.stands.few in let within = c.requires.within in omega arith

pub offset_bounds-self-inside-i-2 : goal.offset_bounds-self-inside-i-2
offset_bounds-self-inside-i-2 c = let o = opened _ _ _ _ _ c.self.invariant c.self.view_is in let few = o.stands.few in let within = c.requires.within in omega arith

pub bounds-self-inside-i-2 : goal.bounds-self-inside-i-2
bounds-self-inside-i-2 c = let o = opened _ _ _ _ _ c.self.invariant c.self.view_is in let few = o.stands.few in let within = c.requires.within in omega arith

pub move_bytes-requires : goal.move_bytes-requires
move_bytes-requires c =
    let fits : size_of c.args.self.now.entries ≤ 4092 = c.requires.takes.fits in let key = c.requires.key in let value = c.requires.takes.short in
    let within = c.requires.within in let o = opened _ _ _ _ _ c.self.invariant c.self.view_is in let b = bounds_of _ _ _ _ _ (c.args.i + 1) o.stands o.count_of (omega arith) in
    let rise = marks_rise _ _ _ _ o.stands c.args.i (c.args.i + 1) (omega arith) (omega arith) in
    record { order = omega arith; within = omega arith; room = omega arith }

pub put_entry-requires : goal.put_entry-requires
put_entry-requires c =
    let fits : size_of c.args.self.now.entries ≤ 4092 = c.requires.takes.fits in let key = c.requires.key in let value = c.requires.takes.short in
    let within = c.requires.within in let o = opened _ _ _ _ _ c.self.invariant c.self.view_is in let b = bounds_of _ _ _ _ _ c.args.i o.stands o.count_of (omega arith) in
    record { entry = (key, value); room = omega arith }

pub overflow_sub-end : goal.overflow_sub-end
overflow_sub-end c = let within = c.requires.within in let o = opened _ _ _ _ _ c.self.invariant c.self.view_is in marks_rise _ _ _ _ o.stands c.args.i (c.args.i + 1) (omega arith) (omega arith)

pub resize_end-requires-clause-entry : goal.resize_end-requires-clause-entry
resize_end-requires-clause-entry c = let o = opened _ _ _ _ _ c.self.invariant c.self.view_is in has_entry_at _ _ _ _ o.stands _ c.args.i o.count_of c.requires.within

pub resize_end-requires-clause-fits : goal.resize_end-requires-clause-fits
resize_end-requires-clause-fits c = λ k low le.
    let o = opened _ _ _ _ _ c.self.invariant c.self.view_is in omega (arith, mark_most _ _ _ _ o.stands k (omega arith))

stands : (c : goal.After-resize_end) → Stands c.self.inside.level (set c.args.self.now.entries c.args.i (c.args.key.now, c.args.value.now)) c.resize_end.new.ends c.put_entry.new.bytes
stands c =
    let o = opened _ _ _ _ _ c.self.invariant c.self.view_is in
    let n = o.count_of in
    set_stands _ _ c.self.inside.ends c.self.inside.bytes c.move_bytes.new.bytes c.put_entry.new.bytes c.resize_end.new.ends c.args.i (get_or c.self.inside.ends c.args.i 0 + 3 + length c.args.key.now + length c.args.value.now) (c.args.key.now, c.args.value.now) o.stands c.requires.within c.self.told.0 c.requires.takes.fits (c.requires.key, c.requires.takes.short)
    (λ inner. c.requires.takes.child (omega arith))
    (omega arith)
    (c.move_bytes.ensures ∙ ap (λ k. copy_within c.self.inside.bytes (get_or c.self.inside.ends (c.args.i + 1) 0) (get_or c.self.inside.ends k 0) (get_or c.self.inside.ends c.args.i 0 + 3 + length c.args.key.now + length c.args.value.now)) n)
    c.put_entry.ensures c.resize_end.ensures.kept (λ k low le. c.resize_end.ensures.moved k low (omega arith))

as_long : (c : goal.After-resize_end) → c.self.inside.count ≡ length (set c.args.self.now.entries c.args.i (c.args.key.now, c.args.value.now))
as_long c = search (opened _ _ _ _ _ c.self.invariant c.self.view_is, length-set c.args.self.now.entries c.args.i (c.args.key.now, c.args.value.now))

pub invariant_of-self : goal.invariant_of-self
invariant_of-self c = to_held _ _ _ _ _ (stands c) (as_long c)

pub returns : goal.returns
returns c = let o = opened _ _ _ _ _ c.self.invariant c.self.view_is in closed _ _ c.resize_end.new.ends _ _ _ (stands c) (as_long c) o.level_of
