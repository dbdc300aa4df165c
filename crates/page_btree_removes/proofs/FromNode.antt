-- A remove from the tree at a child, whose page was read.
use Rattle.std.{specs.{FinMap.find, Option.option_map, Prelude.{Some, None, Result, Ok, IfOk, OnOk}}, proofs.Common.{◌≡◌, ◌≢◌, ◌-◌, ◌<◌, ◌≤◌, ◌^◌, ℕ, List, sym, subst, arith}}
use Rattle.page_btree_gets.specs.{claim.Tree.rows, declared.error.TreeError.{TreeError, TheVariants.NotAStore}, node.{Entries.child_in, Places.floor, claim.Node.{Node, IsNode}}}
use Rattle.{page_btree_gets.specs.node.claim.Places.key_cmp, page_btree_removes.specs.{Outcomes.RemovesKeyAt, Removing.{CanRemove, Removes, LinkErr, IsPutBack, unlinked}}}
use Rattle.{page_btree_removes.specs.declared.removes.Removed.{Removed, TheVariants.{Absent, Kept, Emptied}}, page_store.specs.{claim.Chain.AreFree, declared.pages.Pages.Pages}}
use Rattle.{page_store.specs.{claim.Transactions.{stored, disk_in, txn_pages, over, free_over, IsQuiet}, declared.txn.Txn.Txn}, sector_device.specs.claim.Disk.Image}
use Rattle.{sector_device.specs.declared.SectorDevice.Ghosts, page_btree_gets.proofs.Outcomes.map_ok, page_btree_removes.proofs.Steps.{StepsDown, step_down, both_ok}}

module _ {D : Type 0} {g : Ghosts D} (t u : Txn) (old mid new : Pages D g) (level p child : ℕ) (page below key : List ℕ) (deep : level ≢ 0) (few : txn_pages t ≤ 2 ^ 32) (told : (node : Node) → IsNode page node → option_map child_in (floor key node.entries) ≡ Some child) (quiet : IsQuiet old mid) (later : IsQuiet mid new) (reads : (disk_in mid).is_honest → below ≡ over t (stored old) child) (honest : (disk_in new).is_honest) (there : page ≡ over t (stored old) p) (can : CanRemove (txn_pages t) (over t (stored old)) (free_over t (stored old)) level key p) where
  positive : 0 < level
  positive = omega arith

  abbrev step : StepsDown (txn_pages t) (stored old) t level can.low can.high key p child can.tree
  step = step_down (txn_pages t) (stored old) t level key p child can positive few (λ node at. told node (subst (λ b. IsNode b node) (sym there) at))

  pub can_below : (below ≡ over t (stored mid) child) × CanRemove (txn_pages t) (over t (stored mid)) (free_over t (stored mid)) (level - 1) key child
  can_below = subst (λ (S : Image). (below ≡ over t S child) × CanRemove (txn_pages t) (over t S) (free_over t S) (level - 1) key child) (sym (quiet.same (later.honest honest))) (reads (later.honest honest), step.can)

  module _ (did : Removed) (removed : RemovesKeyAt t u mid new (level - 1) child below key (Ok did)) where
    gone : (its : Removed) → did ≡ its → Removes (over u (stored old)) (free_over u (stored old)) step.can its
    gone its is = subst (λ (d : Removed). Removes (over u (stored old)) (free_over u (stored old)) step.can d) is
        (subst (λ (S : Image). below ≡ over t S child → (is : CanRemove (txn_pages t) (over t S) (free_over t S) (level - 1) key child) → Removes (over u S) (free_over u S) is did) (quiet.same (later.honest honest)) (removed honest) (reads (later.honest honest)) step.can)

    pub absent : did ≡ Absent → find key_cmp key (rows can.tree) ≡ None
    absent is = step.absent (gone Absent is)

    pub kept : did ≡ Kept → Removes (over u (stored old)) (free_over u (stored old)) can Kept
    kept is = step.kept u (gone Kept is)

    -- then the link to the child is taken out
    pub no_link : did ≡ Emptied → txn_pages u ≡ txn_pages t → LinkErr u p page NotAStore → ⊥
    no_link is same_count why =
        let off = step.off u (gone Emptied is) in
        why (stored old) step.node (subst (λ b. IsNode b step.node) (sym there) step.node_is) step.some step.used.1 (subst (λ (k : ℕ). AreFree k (free_over u (stored old))) (sym same_count) off.2) off.1

    pub emptied : did ≡ Emptied → (v : Txn) (result : Result Removed TreeError) → ((node : Node) → IsNode page node → IfOk result (λ back. IsPutBack u v p (record node { entries = unlinked key node.entries }) back)) → OnOk result ((P : Image) (q : ℕ) → q ≢ p → over v P q ≡ over u P q)
        → IfOk result (λ back. Removes (over v (stored old)) (free_over v (stored old)) can back)
    emptied is v result link elsewhere =
        map_ok result (λ back. IsPutBack u v p (record step.node { entries = unlinked key step.node.entries }) back × ((P : Image) (q : ℕ) → q ≢ p → over v P q ≡ over u P q))
        (λ back. Removes (over v (stored old)) (free_over v (stored old)) can back)
        (λ back done. step.emptied u v back (gone Emptied is) done.0 (done.1 (stored old)))
        (both_ok result (λ back. IsPutBack u v p (record step.node { entries = unlinked key step.node.entries }) back) (λ _. (P : Image) (q : ℕ) → q ≢ p → over v P q ≡ over u P q) (link step.node (subst (λ b. IsNode b step.node) (sym there) step.node_is)) elsewhere)
