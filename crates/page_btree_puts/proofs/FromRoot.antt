-- A put into the tree at a root that was read.
use Rattle.{std.specs.{FinMap.{get, insert, contains_key}, Prelude.{Some, None, Result, Ok, MatchResult}}, page_btree_gets.specs.{Errors.IsNoWant, claim.{Keys.KeyMap, Tree.Tree}}}
use Rattle.{std.proofs.Common.{◌≡◌, ◌≢◌, ◌≤◌, ℕ, List, [], length, sym, subst, ◌∙◌, ◌<◌, ◌+◌}, page_btree_gets.specs.claim.Errors.{level_in, reach_in, top_reach}}
use Rattle.page_btree_gets.specs.{claim.Map.{Holds, InTxn}, declared.error.TreeError.TreeError, node.{Entries.key_at, claim.Node.{Node, IsNode, count_in}}}
use Rattle.page_btree_puts.specs.{Outcomes.{CanPutIn, IsGrownBy, TakesNoPageAt, PutsRowAt}, Putting.{CanPutSome, IsRaised}, Reach.{Widens, WidensAt}, declared.puts.Placed.Placed}
use Rattle.page_store.specs.{claim.{Chain.AreFree, Transactions.{stored, disk_in, txn_pages, txn_root, txn_free, over, free_over, IsQuiet}}, declared.pages.Pages.Pages}
use Rattle.{page_store.specs.declared.txn.Txn.Txn, sector_device.specs.{claim.Disk.Image, declared.SectorDevice.Ghosts}, page_btree_puts.proofs.Wide.{tree_level, raised_level}}
use Rattle.page_btree_puts.proofs.{Reach.{root_stays, root_grows, root_tall}, Roots.{rooted, level_same, root_can, find_there, after_whole, after_grown, left_are}}

module _ {D : Type 0} {g : Ghosts D} (t : Txn) (old mid : Pages D g) (root level : ℕ) (bytes key : List ℕ) (root_is : root ≡ txn_root t) (some : root ≢ 0) (quiet : IsQuiet old mid) (reads : (disk_in mid).is_honest → bytes ≡ over t (stored old) root) (level_is : (node : Node) → IsNode bytes node → level ≡ node.level) (honest : (disk_in mid).is_honest) (m : KeyMap) (holds : InTxn t (stored old) m) where
  at_root : Holds (txn_pages t) (over t (stored old)) root (free_over t (stored old)) m
  at_root = subst (λ (r : ℕ). Holds (txn_pages t) (over t (stored old)) r (free_over t (stored old)) m) (sym root_is) holds

  abbrev tree : Tree
  tree = (rooted (txn_pages t) (over t (stored old)) root (free_over t (stored old)) m key bytes level at_root some (reads honest) level_is).tree

  can : CanPutIn t (stored mid) level [] None root bytes key tree
  can = subst (λ (T : Image). CanPutIn t T level [] None root bytes key tree) (sym (quiet.same honest)) (root_can (txn_pages t) (over t (stored old)) root (free_over t (stored old)) m key bytes level at_root some (reads honest) level_is)

  pub can_some : CanPutSome (txn_pages t) (over t) level (free_over t) root bytes key (stored mid)
  can_some = ([], None, tree, can)

  pub same_length : (u : Txn) (new : Pages D g) (value held : List ℕ) (result : Result Placed TreeError) → TakesNoPageAt t u mid new level root bytes (key, value) result → (disk_in new).is_honest → get m key ≡ Some held → length held ≡ length value
      → MatchResult result (λ placed. (placed.right ≡ None) × (txn_free u ≡ txn_free t)) (λ e. IsNoWant e)
  same_length u new value held result fixed after there same =
      fixed after [] None tree held can (sym (find_there (txn_pages t) (over t (stored old)) root (free_over t (stored old)) m key bytes level at_root some (reads honest) level_is) ∙ there) same

  level_here : level_in (over t (stored old)) root ≡ level
  level_here =
      let r = rooted (txn_pages t) (over t (stored old)) root (free_over t (stored old)) m key bytes level at_root some (reads honest) level_is in
      tree_level (over t (stored old)) r.level [] None r.tree root r.stands r.root_is ∙ sym (level_same (txn_pages t) (over t (stored old)) root (free_over t (stored old)) m key bytes level at_root some (reads honest) level_is)

  module _ (u : Txn) (new : Pages D g) (value : List ℕ) (placed : Placed) (upper : Node) (put : PutsRowAt t u mid new level root bytes (key, value) upper (Ok placed)) (after : (disk_in new).is_honest) where
    raised : IsRaised (over t (stored old)) (over u (stored old)) level [] None (free_over t (stored old)) (free_over u (stored old)) key value placed.had [] root tree placed.right upper
    raised = subst (λ (T : Image). IsRaised (over t T) (over u T) level [] None (free_over t T) (free_over u T) key value placed.had [] root tree placed.right upper) (quiet.same honest) (put after [] None tree can [])

    pub put_whole : placed.right ≡ None → txn_pages u ≡ txn_pages t → txn_root u ≡ txn_root t → InTxn u (stored old) (insert m key value) × (placed.had ≡ contains_key m key)
    put_whole is pages_are same_root =
        let Q = over u (stored old) in
        let left = free_over u (stored old) in
        let done = after_whole (txn_pages t) (over t (stored old)) root (free_over t (stored old)) m key bytes level at_root some (reads honest) level_is Q left value placed.had placed.right upper raised is in
        (subst (λ (k : ℕ). Holds k Q (txn_root u) left (insert m key value)) (sym pages_are) (subst (λ (r : ℕ). Holds (txn_pages t) Q r left (insert m key value)) (sym (same_root ∙ sym root_is)) done.0), done.1)

    pub free_then : txn_pages u ≡ txn_pages t → IsQuiet mid new → AreFree (txn_pages u) (free_over u (stored new))
    free_then pages_are then =
        subst (λ (k : ℕ). AreFree k (free_over u (stored new))) (sym pages_are) (subst (λ (T : Image). AreFree (txn_pages t) (free_over u T)) (sym (then.same after ∙ quiet.same honest))
        (left_are (txn_pages t) (over t (stored old)) root (free_over t (stored old)) m key bytes level at_root some (reads honest) level_is (over u (stored old)) (free_over u (stored old)) value placed.had placed.right upper raised))

    pub put_grown : (v : Txn) (q : ℕ) → placed.right ≡ Some q → txn_pages u ≡ txn_pages t → txn_pages v ≡ txn_pages u → IsQuiet mid new → level ≤ 4 → (AreFree (txn_pages u) (free_over u (stored new)) → IsGrownBy u v (stored new) root q level (key_at upper.entries 0))
        → InTxn v (stored old) (insert m key value) × (placed.had ≡ contains_key m key)
    put_grown v q is pages_are pages_then then few grows =
        let R = over v (stored old) in
        let last = free_over v (stored old) in
        let grown = subst (λ (T : Image). IsGrownBy u v T root q level (key_at upper.entries 0)) (then.same after ∙ quiet.same honest) (grows (free_then pages_are then)) in
        let done = after_grown (txn_pages t) (over t (stored old)) root (free_over t (stored old)) m key bytes level at_root some (reads honest) level_is (over u (stored old)) (free_over u (stored old)) value placed.had placed.right upper raised q is R last (txn_root v) few grown in
        (subst (λ (k : ℕ). Holds k R (txn_root v) last (insert m key value)) (sym (pages_then ∙ pages_are)) done.0, done.1)

    -- ---- how near the tree is to a seventh level
    widens : WidensAt t u mid new level root bytes key (Ok placed) → 0 < level → Widens (over t (stored old) root) (over u (stored old) root) placed.right
    widens wide deep = subst (λ (T : Image). Widens (over t T root) (over u T root) placed.right) (quiet.same honest) (wide after deep [] None tree can)

    pub reach_whole : placed.right ≡ None → txn_root u ≡ txn_root t → WidensAt t u mid new level root bytes key (Ok placed) → reach_in (over u (stored old)) (txn_root u) ≤ reach_in (over t (stored old)) (txn_root t) + 1
    reach_whole none same_root wide =
        let is = raised_level (over t (stored old)) (over u (stored old)) level [] None (free_over t (stored old)) (free_over u (stored old)) key value placed.had [] root tree placed.right upper none raised in
        let more = root_stays (over t (stored old)) (over u (stored old)) root level some level_here is (λ deep. subst (λ r. Widens (over t (stored old) root) (over u (stored old) root) r) none (widens wide deep)) in
        subst (λ (r : ℕ). reach_in (over u (stored old)) r ≤ reach_in (over t (stored old)) (txn_root t) + 1) (sym (same_root ∙ sym root_is))
        (subst (λ (r : ℕ). reach_in (over u (stored old)) root ≤ reach_in (over t (stored old)) r + 1) root_is more)

    wide_root : (q : ℕ) → placed.right ≡ Some q → WidensAt t u mid new level root bytes key (Ok placed) → 0 < level → 51 ≤ count_in (over t (stored old) root)
    wide_root q is wide deep = subst (λ r. Widens (over t (stored old) root) (over u (stored old) root) r) is (widens wide deep)

    pub reach_grown : (v : Txn) (q : ℕ) → placed.right ≡ Some q → txn_pages u ≡ txn_pages t → IsQuiet mid new → (AreFree (txn_pages u) (free_over u (stored new)) → IsGrownBy u v (stored new) root q level (key_at upper.entries 0)) → WidensAt t u mid new level root bytes key (Ok placed)
        → reach_in (over v (stored old)) (txn_root v) ≤ reach_in (over t (stored old)) (txn_root t) + 1
    reach_grown v q is pages_are then grows wide =
        let grown = subst (λ (T : Image). IsGrownBy u v T root q level (key_at upper.entries 0)) (then.same after ∙ quiet.same honest) (grows (free_then pages_are then)) in
        subst (λ (r : ℕ). reach_in (over v (stored old)) (txn_root v) ≤ reach_in (over t (stored old)) r + 1) root_is
        (root_grows (over t (stored old)) (over v (stored old)) root (txn_root v) level some level_here (wide_root q is wide) grown.holds.level grown.holds.count)

    pub reach_tall : (q : ℕ) → placed.right ≡ Some q → level ≡ 5 → WidensAt t u mid new level root bytes key (Ok placed) → top_reach ≤ reach_in (over t (stored old)) (txn_root t)
    reach_tall q is five wide = subst (λ (r : ℕ). top_reach ≤ reach_in (over t (stored old)) r) root_is (root_tall (over t (stored old)) root level some level_here five (wide_root q is wide))
