use Rattle.std.{specs.{List.copy_within, Prelude.remove}, proofs.{Common.{◌≡◌, ◌+◌, ◌-◌, length, get_or, arith, ap, ◌∙◌}, lemmas.List.Edits.length-remove}}
use Rattle.page_btree_node.proofs.{Editing.{closed, bounds_of, marks_rise, has_entry_at, remove_stands}, Standing.{Stands, to_held, opened}}
use Rattle.page_btree_node.proofs.node_buf.NodeBuf.remove.Goals as goal

pub offset_bounds-self-inside-i : goal.offset_bounds-self-inside-i
offset_bounds-self-inside-i c = let o = opened _ _ _ _ _ c.self.invariant c.self.view_is in let few = o.stands.few in let within = c.requires in omega arith

pub bounds-self-inside-i : goal.bounds-self-inside-i
bounds-self-inside-i c = let o = opened _ _ _ _ _ c.self.invariant c.self.view_is in let few = o.stands.few in let within = c.requires in omega arith

pub overflow_add-end : goal.overflow_add-end
overflow_add-end c = let o = opened _ _ _ _ _ c.self.invariant c.self.view_is in let few = o.stands.few in let within = c.requires in omega arith

pub offset_bounds-self-inside-i-2 : goal.offset_bounds-self-inside-i-2
offset_bounds-self-inside-i-2 c = let o = opened _ _ _ _ _ c.self.invariant c.self.view_is in let few = o.stands.few in let within = c.requires in omega arith

pub bounds-self-inside-i-2 : goal.bounds-self-inside-i-2
bounds-self-inside-i-2 c = let o = opened _ _ _ _ _ c.self.invariant c.self.view_is in let few = o.stands.few in let within = c.requires in omega arith

pub move_bytes-requires : goal.move_bytes-requires
move_bytes-requires c =
    let within = c.requires in let o = opened _ _ _ _ _ c.self.invariant c.self.view_is in let b = bounds_of _ _ _ _ _ (c.args.i + 1) o.stands o.count_of (omega arith) in
    let rise = marks_rise _ _ _ _ o.stands c.args.i (c.args.i + 1) (omega arith) (omega arith) in
    record { order = omega arith; within = omega arith; room = omega arith }

pub overflow_sub-end : goal.overflow_sub-end
overflow_sub-end c = let within = c.requires in let o = opened _ _ _ _ _ c.self.invariant c.self.view_is in marks_rise _ _ _ _ o.stands c.args.i (c.args.i + 1) (omega arith) (omega arith)

pub remove_end-requires : goal.remove_end-requires
remove_end-requires c = let o = opened _ _ _ _ _ c.self.invariant c.self.view_is in has_entry_at _ _ _ _ o.stands _ c.args.i o.count_of c.requires

stands : (c : goal.After-self-1) → Stands c.self.inside.level (remove c.args.self.now.entries c.args.i) c.remove_end.new.ends c.move_bytes.new.bytes
stands c =
    let o = opened _ _ _ _ _ c.self.invariant c.self.view_is in
    let n = o.count_of in
    remove_stands _ _ c.self.inside.ends c.self.inside.bytes c.move_bytes.new.bytes c.remove_end.new.ends c.args.i o.stands c.requires c.self.told.0
    (c.move_bytes.ensures ∙ ap (λ k. copy_within c.self.inside.bytes (get_or c.self.inside.ends (c.args.i + 1) 0) (get_or c.self.inside.ends k 0) (get_or c.self.inside.ends c.args.i 0)) n)
    c.remove_end.ensures.kept (λ k low less. c.remove_end.ensures.moved k low (omega arith))

shorter : (c : goal.After-self-1) → c.self.inside.count - 1 ≡ length (remove c.args.self.now.entries c.args.i)
shorter c = search (arith, opened _ _ _ _ _ c.self.invariant c.self.view_is, length-remove c.args.self.now.entries c.args.i c.requires)

pub invariant_of-self : goal.invariant_of-self
invariant_of-self c = to_held _ _ _ _ _ (stands c) (shorter c)

pub returns : goal.returns
returns c = let o = opened _ _ _ _ _ c.self.invariant c.self.view_is in closed _ _ c.remove_end.new.ends _ _ _ (stands c) (shorter c) o.level_of
