use Rattle.std.{specs.{List.copy_within, Prelude.insert}, proofs.{Common.{◌≡◌, ◌+◌, ◌≤◌, length, get_or, arith, ap, refl, ◌∙◌}, lemmas.List.Edits.length-insert}}
use Rattle.page_btree_node.{specs.claim.Entries.size_of, proofs.{Editing.{closed, bounds_of, mark_most, put_stands}, Standing.{Stands, to_held, opened}}}
use Rattle.page_btree_node.proofs.node_buf.NodeBuf.insert.Goals as goal

pub offset_bounds-self-inside-i : goal.offset_bounds-self-inside-i
offset_bounds-self-inside-i c = let o = opened _ _ _ _ _ c.self.invariant c.self.view_is in let few = o.stands.few in let within = c.requires.within in omega arith

pub bounds-self-inside-i : goal.bounds-self-inside-i
bounds-self-inside-i c = let o = opened _ _ _ _ _ c.self.invariant c.self.view_is in let few = o.stands.few in let within = c.requires.within in omega arith

pub move_bytes-requires : goal.move_bytes-requires
move_bytes-requires c =
    let fits : size_of c.args.self.now.entries ≤ 4092 = c.requires.takes.fits in let key = c.requires.key in let value = c.requires.takes.short in
    let o = opened _ _ _ _ _ c.self.invariant c.self.view_is in let b = bounds_of _ _ _ _ _ c.args.i o.stands o.count_of c.requires.within in
    record { order = omega arith; within = omega arith; room = omega arith }

pub put_entry-requires : goal.put_entry-requires
put_entry-requires c =
    let fits : size_of c.args.self.now.entries ≤ 4092 = c.requires.takes.fits in let key = c.requires.key in let value = c.requires.takes.short in
    let o = opened _ _ _ _ _ c.self.invariant c.self.view_is in let b = bounds_of _ _ _ _ _ c.args.i o.stands o.count_of c.requires.within in
    record { entry = (key, value); room = omega arith }

pub insert_end-requires-clause-part : goal.insert_end-requires-clause-part
insert_end-requires-clause-part c =
    let fits : size_of c.args.self.now.entries ≤ 4092 = c.requires.takes.fits in let within = c.requires.within in
    let o = opened _ _ _ _ _ c.self.invariant c.self.view_is in let n = o.count_of in let b = bounds_of _ _ _ _ _ c.args.i o.stands o.count_of c.requires.within in
    record { order = omega arith; within = omega arith }

pub insert_end-requires-clause-fits : goal.insert_end-requires-clause-fits
insert_end-requires-clause-fits c = λ k le.
    let o = opened _ _ _ _ _ c.self.invariant c.self.view_is in omega (arith, mark_most _ _ _ _ o.stands k (omega arith))

stands : (c : goal.After-self-1) → Stands c.self.inside.level (insert c.args.self.now.entries c.args.i (c.args.key.now, c.args.value.now)) c.insert_end.new.ends c.put_entry.new.bytes
stands c =
    let o = opened _ _ _ _ _ c.self.invariant c.self.view_is in
    let n = o.count_of in
    put_stands _ _ c.self.inside.ends c.self.inside.bytes c.move_bytes.new.bytes c.put_entry.new.bytes c.insert_end.new.ends c.args.i c.args.i _ (c.args.key.now, c.args.value.now) o.stands (omega arith) c.requires.within c.self.told.0 c.requires.takes.fits (c.requires.key, c.requires.takes.short)
    (λ inner. c.requires.takes.child (omega arith)) refl
    (c.move_bytes.ensures ∙ ap (λ k. copy_within c.self.inside.bytes (get_or c.self.inside.ends c.args.i 0) (get_or c.self.inside.ends k 0) (get_or c.self.inside.ends c.args.i 0 + (3 + length c.args.key.now + length c.args.value.now))) n)
    c.put_entry.ensures c.insert_end.ensures.kept (λ k m sum low le.
    let there = c.insert_end.ensures.moved m low (omega arith) in
    let at_k : get_or c.insert_end.new.ends k 0 ≡ get_or c.insert_end.new.ends (m + 1) 0 = ap (λ q. get_or c.insert_end.new.ends q 0) (omega arith) in
    omega arith)

longer : (c : goal.After-self-1) → c.self.inside.count + 1 ≡ length (insert c.args.self.now.entries c.args.i (c.args.key.now, c.args.value.now))
longer c = search (opened _ _ _ _ _ c.self.invariant c.self.view_is, length-insert c.args.self.now.entries c.args.i (c.args.key.now, c.args.value.now) c.requires.within)

pub invariant_of-self : goal.invariant_of-self
invariant_of-self c = to_held _ _ _ _ _ (stands c) (longer c)

pub returns : goal.returns
returns c = let o = opened _ _ _ _ _ c.self.invariant c.self.view_is in closed _ _ c.insert_end.new.ends _ _ _ (stands c) (longer c) o.level_of
