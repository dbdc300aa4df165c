use Rattle.{std.{specs.{FinMap.entries, Prelude.{Some, None}}, proofs.Common.{◌≡◌, ℕ, List, cond, ap, refl, subst, ◌∙◌}}, btree_scan.specs.declared.held.HeldLeaves.HeldLeaves}
use Rattle.{page_btree.specs.gets.Seeking.{bound_in, IsFrom}, btree_scan.proofs.Ready.{ready_last, ready_read}}
use Rattle.btree_scan.proofs.scans.read_on.Goals as goal

pub returns-then-not-leaf-clause-rows : goal.returns-then-not-leaf-clause-rows
returns-then-not-leaf-clause-rows g c = λ honest m rest holds is. search (c.if-not-leaf.true, ready_last)

pub returns-clause-rows : goal.returns-clause-rows
returns-clause-rows g c = λ honest m rest holds is.
    let bound : bound_in c.args.leaf.now ≡ Some c.args.leaf.now.bound = ap (λ b. cond b (Some c.args.leaf.now.bound) None) c.if-not-leaf.false in
    let from = subst (λ (key : List ℕ). IsFrom key (entries m) c.leaf_from.new.leaf c.leaf_from.new.held) (c.as_slice-2.ensures.bytes ∙ c.set.ensures ∙ c.as_slice.ensures.bytes) (c.in_ok-leaf_from.ensures.rows honest m holds) in
    let held : HeldLeaves = record { pages = c.leaf_from.new.held; which = 0; fits = _ } in
    ready_read c.args.covered.now c.is_within.result c.args.prefix.now c.args.leaf.now.bound c.args.leaf.now c.leaf_from.new.leaf c.args.held.now held (entries m) rest is c.requires.left c.requires.more bound from refl c.is_within.ensures
