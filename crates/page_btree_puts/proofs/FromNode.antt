-- A put into the tree at a child, whose page was read.
use Rattle.{std.specs.{FinMap.find, Option.option_map, Prelude.{Option, Some, None, Result, Ok, MatchResult, IfSome}}, page_btree_gets.specs.{Errors.IsNoWant, node.Places.floor}}
use Rattle.{std.proofs.Common.{◌≡◌, ◌≢◌, ◌-◌, ◌<◌, ◌≤◌, ◌^◌, ℕ, List, [], ◌∷◌, length, sym, subst, ◌∙◌}, page_btree_gets.specs.{claim.Tree.{Tree, rows}, node.claim.Places.key_cmp}}
use Rattle.page_btree_gets.specs.{declared.error.TreeError.TreeError, node.{Entries.{key_at, child_in}, claim.{Entries.child_bytes, Node.{Node, IsNode}}}}
use Rattle.page_btree_puts.specs.{Outcomes.{CanPutIn, IsRaisedBy, IsWrittenBy, TakesNoPageAt, PutsRowAt}, Putting.{CanPutSome, linked}, Reach.Widens, declared.puts.Placed.Placed}
use Rattle.page_store.specs.{claim.{Chain.{IsIn, AreFree}, Transactions.{stored, disk_in, txn_pages, txn_free, over, free_over, IsQuiet}}, declared.pages.Pages.Pages}
use Rattle.{page_store.specs.declared.txn.Txn.Txn, sector_device.specs.{claim.Disk.Image, declared.SectorDevice.Ghosts}, page_btree_puts.proofs.Down.{StepsDown, step_down}}
use Rattle.page_btree_puts.proofs.Wide.{widens_same, widens_written}

module _ {D : Type 0} {g : Ghosts D} (t : Txn) (old mid : Pages D g) (level page child : ℕ) (bytes below key value : List ℕ) (deep : level ≢ 0) (few : txn_pages t ≤ 2 ^ 32) (told : (node : Node) → IsNode bytes node → option_map child_in (floor key node.entries) ≡ Some child) (quiet : IsQuiet old mid) (reads : (disk_in mid).is_honest → below ≡ over t (stored old) child) (honest : (disk_in mid).is_honest) (low : List ℕ) (high : Option (List ℕ)) (tree : Tree) (can : CanPutIn t (stored old) level low high page bytes key tree) where
  step : StepsDown (txn_pages t) (over t (stored old)) level low high (free_over t (stored old)) page key value tree child
  step = step_down (txn_pages t) (over t (stored old)) level low high (free_over t (stored old)) page bytes key value tree child few can deep told

  can_child : CanPutIn t (stored mid) (level - 1) step.its_low step.its_high child below key step.its
  can_child = subst (λ (T : Image). CanPutIn t T (level - 1) step.its_low step.its_high child below key step.its) (sym (quiet.same honest)) (step.can below (reads honest))

  pub can_some : CanPutSome (txn_pages t) (over t) (level - 1) (free_over t) child below key (stored mid)
  can_some = (step.its_low, step.its_high, step.its, can_child)

  pub same_length : (u : Txn) (new : Pages D g) (held : List ℕ) (result : Result Placed TreeError) → TakesNoPageAt t u mid new (level - 1) child below (key, value) result → (disk_in new).is_honest → find key_cmp key (rows tree) ≡ Some held → length held ≡ length value
      → MatchResult result (λ placed. (placed.right ≡ None) × (txn_free u ≡ txn_free t)) (λ e. IsNoWant e)
  same_length u new held result fixed after there same = fixed after step.its_low step.its_high step.its held can_child (step.found ∙ there) same

  module _ (u : Txn) (new : Pages D g) (placed : Placed) (upper : Node) (put : PutsRowAt t u mid new (level - 1) child below (key, value) upper (Ok placed)) (after : (disk_in new).is_honest) where
    done : (k : List ℕ) → IsRaisedBy t u (stored old) (level - 1) step.its_low step.its_high (key, value) placed k child step.its upper
    done = subst (λ (T : Image). (k : List ℕ) → IsRaisedBy t u T (level - 1) step.its_low step.its_high (key, value) placed k child step.its upper) (quiet.same honest) (put after step.its_low step.its_high step.its can_child)

    pub put_none : placed.right ≡ None → (above : Node) (k : List ℕ) → IsRaisedBy t u (stored old) level low high (key, value) placed k page tree above
    put_none = step.kept (over u (stored old)) (free_over u (stored old)) placed.had placed.right upper done

    stays : IsNode (over u (stored old) page) step.node × AreFree (txn_pages t) (free_over u (stored old)) × (IsIn page (free_over u (stored old)) → ⊥)
    stays = step.stays (over u (stored old)) (free_over u (stored old)) placed.had placed.right upper done

    -- what a link to the other half needs
    pub has_node : txn_pages u ≡ txn_pages t → IsQuiet mid new → AreFree (txn_pages u) (free_over u (stored new)) × ((node : Node) × IsNode (over u (stored new) page) node × (0 < length node.entries))
    has_node pages_are then =
        let same = sym (then.same after ∙ quiet.same honest) in (
          subst (λ (k : ℕ). AreFree k (free_over u (stored new))) (sym pages_are) (subst (λ (T : Image). AreFree (txn_pages t) (free_over u T)) same stays.1),
          (step.node, subst (λ (T : Image). IsNode (over u T page) step.node) same stays.0, step.some),
        )

    pub put_some : (v : Txn) (q : ℕ) (cut : Option ℕ) (above : Node) → placed.right ≡ Some q → txn_pages u ≡ txn_pages t → IsQuiet mid new
        → ((node : Node) → IsNode (over u (stored new) page) node → 0 < length node.entries → AreFree (txn_pages u) (free_over u (stored new)) → (IsIn page (free_over u (stored new)) → ⊥)
        → IsWrittenBy u v (stored new) page cut (record node { entries = linked key ((key_at upper.entries 0, child_bytes q) ∷ []) node.entries }) above)
        → (k : List ℕ) → IsRaisedBy t v (stored old) level low high (key, value) (record { had = placed.had; right = cut }) k page tree above
    unfolding has_node
    put_some v q cut above is pages_are then links_it =
        let same = then.same after ∙ quiet.same honest in
        let has = has_node pages_are then in
        let written = links_it has.1.0 has.1.1 has.1.2 has.0 (subst (λ (T : Image). IsIn page (free_over u T) → ⊥) (sym same) stays.2) in
        step.more (over u (stored old)) (free_over u (stored old)) placed.had placed.right upper done q is (over v (stored old)) (free_over v (stored old)) cut above
        (subst (λ (T : Image). IsWrittenBy u v T page cut (record step.node { entries = linked key ((key_at upper.entries 0, child_bytes q) ∷ []) step.node.entries }) above) same written)

    -- how many entries the node has
    pub wide_none : placed.right ≡ None → Widens (over t (stored old) page) (over u (stored old) page) placed.right
    wide_none none = widens_same (over t (stored old) page) (over u (stored old) page) step.node placed.right none step.here stays.0

    pub wide_some : (v : Txn) (q : ℕ) (cut : Option ℕ) (above : Node) → txn_pages u ≡ txn_pages t → IsQuiet mid new
        → ((node : Node) → IsNode (over u (stored new) page) node → 0 < length node.entries → AreFree (txn_pages u) (free_over u (stored new)) → (IsIn page (free_over u (stored new)) → ⊥)
        → IsWrittenBy u v (stored new) page cut (record node { entries = linked key ((key_at upper.entries 0, child_bytes q) ∷ []) node.entries }) above)
        → ((node : Node) → IsNode (over u (stored new) page) node → 0 < node.level → IfSome cut (λ q. 51 ≤ length node.entries))
        → Widens (over t (stored old) page) (over v (stored old) page) cut
    unfolding has_node
    wide_some v q cut above pages_are then links_it wide =
        let same = then.same after ∙ quiet.same honest in
        let has = has_node pages_are then in
        let written = links_it has.1.0 has.1.1 has.1.2 has.0 (subst (λ (T : Image). IsIn page (free_over u T) → ⊥) (sym same) stays.2) in
        let moved = subst (λ (T : Image). IsWrittenBy u v T page cut (record step.node { entries = linked key ((key_at upper.entries 0, child_bytes q) ∷ []) step.node.entries }) above) same written in
        widens_written (over t (stored old)) (over u (stored old)) (over v (stored old)) (free_over u (stored old)) (free_over v (stored old)) page cut step.node above key (key_at upper.entries 0, child_bytes q) step.here moved (wide has.1.0 has.1.1 step.inside)
