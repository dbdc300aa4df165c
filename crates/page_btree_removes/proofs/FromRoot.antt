-- A remove from the tree at a root that was read.
use Rattle.std.{specs.{FinMap.{remove as remove_key, contains_key}, Prelude.{Some, None, Ok}}, proofs.Common.{◌≡◌, ◌≢◌, ℕ, List, true, false, refl, sym, subst, ◌∙◌, inl, [], None}}
use Rattle.{page_btree_gets.specs.{claim.{Keys.KeyMap, Map.{InTxn, IsRooted}}, node.claim.Node.{Node, IsNode}}, page_btree_removes.specs.Outcomes.{RemovesKeyAt, IsNoNearer}}
use Rattle.page_btree_removes.specs.{Removing.{CanRemove, Removes, StaysAt}, declared.removes.Removed.{Removed, TheVariants.{Absent, Kept, Emptied}}}
use Rattle.page_store.specs.{claim.Transactions.{stored, disk_in, txn_pages, txn_root, over, free_over, IsQuiet}, declared.{pages.Pages.Pages, txn.Txn.Txn}}
use Rattle.{sector_device.specs.{claim.Disk.Image, declared.SectorDevice.Ghosts}, page_btree_gets.proofs.Tops.{rooted, level_lent}, page_btree_removes.proofs.Thinner.thinner_reach}
use Rattle.page_btree_removes.proofs.Lefts.{can_remove, absent_same, had_none, had_after, kept_holds, emptied_holds, holds_at, thinner_kept, thinner_same}

module _ {D : Type 0} {g : Ghosts D} (t u : Txn) (old mid new : Pages D g) (root level : ℕ) (page key : List ℕ) (root_is : root ≡ txn_root t) (some : root ≢ 0) (quiet : IsQuiet old mid) (later : IsQuiet mid new) (reads : (disk_in mid).is_honest → page ≡ over t (stored old) root) (level_is : (node : Node) → IsNode page node → level ≡ node.level) (honest : (disk_in new).is_honest) (m : KeyMap) (holds : InTxn t (stored old) m) where
  abbrev tree : IsRooted (txn_pages t) (over t (stored old)) (txn_root t) (free_over t (stored old)) m
  tree = rooted (txn_pages t) (over t (stored old)) (txn_root t) (free_over t (stored old)) m holds (λ none. some (root_is ∙ none))

  same_level : level ≡ tree.level
  same_level = level_lent (txn_pages t) (over t (stored old)) (txn_root t) (free_over t (stored old)) m tree root level root_is (reads (later.honest honest)) level_is

  abbrev can : CanRemove (txn_pages t) (over t (stored old)) (free_over t (stored old)) level key root
  can = can_remove (txn_pages t) (over t (stored old)) (txn_root t) (free_over t (stored old)) m tree key level root holds.free_are same_level root_is

  pub can_there : (page ≡ over t (stored mid) root) × CanRemove (txn_pages t) (over t (stored mid)) (free_over t (stored mid)) level key root
  can_there = subst (λ (S : Image). (page ≡ over t S root) × CanRemove (txn_pages t) (over t S) (free_over t S) level key root) (sym (quiet.same (later.honest honest))) (reads (later.honest honest), can)

  module _ (did : Removed) (removed : RemovesKeyAt t u mid new level root page key (Ok did)) where
    gone : (told : Removed) → did ≡ told → Removes (over u (stored old)) (free_over u (stored old)) can told
    gone told is = subst (λ (d : Removed). Removes (over u (stored old)) (free_over u (stored old)) can d) is
        (subst (λ (S : Image). page ≡ over t S root → (is : CanRemove (txn_pages t) (over t S) (free_over t S) level key root) → Removes (over u S) (free_over u S) is did) (quiet.same (later.honest honest)) (removed honest) (reads (later.honest honest)) can)

    pub absent : did ≡ Absent → StaysAt t u did → InTxn u (stored old) (remove_key m key) × (false ≡ contains_key m key) × IsNoNearer (over t (stored old)) (txn_root t) (over u (stored old)) (txn_root u)
    absent is stays =
        let same : u ≡ t = subst (λ (d : Removed). StaysAt t u d) is stays in
        let none = gone Absent is in (
          subst (λ (x : Txn). InTxn x (stored old) (remove_key m key)) (sym same) (subst (λ (k : KeyMap). InTxn t (stored old) k) (sym (absent_same _ _ _ _ m key tree none)) holds),
          sym (had_none _ _ _ _ m key tree none),
          subst (λ (x : Txn). IsNoNearer (over t (stored old)) (txn_root t) (over x (stored old)) (txn_root x)) (sym same) (thinner_same (over t (stored old)) (txn_root t)),
        )

    pub kept : did ≡ Kept → txn_pages u ≡ txn_pages t → txn_root u ≡ txn_root t → InTxn u (stored old) (remove_key m key) × (true ≡ contains_key m key) × IsNoNearer (over t (stored old)) (txn_root t) (over u (stored old)) (txn_root u)
    kept is same_count same_root =
        let less = gone Kept is in (
          holds_at _ _ _ _ _ _ _ _ _ same_count refl same_root refl (kept_holds _ _ _ _ m key tree _ _ holds.free_are level less.0 same_level less.1),
          sym (had_after _ _ _ _ m key tree _ _ holds.free_are level (Some less.0) less.1),
          thinner_kept (txn_pages t) (over t (stored old)) (txn_root t) (free_over t (stored old)) m tree (over u (stored old)) (txn_root u) level [] None less.0 same_level same_root less.1.stands.0 less.1.stands.2 less.2,
        )

    -- then the root is set to none
    pub emptied : did ≡ Emptied → (v : Txn) → txn_pages v ≡ txn_pages t → txn_root v ≡ 0 → over v (stored old) ≡ over u (stored old) → free_over v (stored old) ≡ free_over u (stored old) → InTxn v (stored old) (remove_key m key) × (true ≡ contains_key m key) × IsNoNearer (over t (stored old)) (txn_root t) (over v (stored old)) (txn_root v)
    emptied is v same_count no_root same_pages same_free =
        let none = gone Emptied is in (
          holds_at _ _ _ _ _ _ _ _ _ same_count same_pages no_root same_free (emptied_holds _ _ _ _ m key tree _ _ holds.free_are level none),
          sym (had_after _ _ _ _ m key tree _ _ holds.free_are level None none),
          thinner_reach (over t (stored old)) (txn_root t) (over v (stored old)) (txn_root v) (inl no_root),
        )
