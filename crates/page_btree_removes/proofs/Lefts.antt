-- Where a remove begins, and the map that it leaves.
use Rattle.std.specs.{FinMap.{find, is_sorted, get, get-entries, entries, entries_sorted, contains_key}, Prelude.{Option, Some, None, is_some}}
use Rattle.{std.proofs.Common.{rules, ◌≡◌, ℕ, List, [], true, false, sym, ap, subst, ◌∙◌, arith, ◌<◌, ◌≤◌, inr, Option}, page_btree_gets.specs.{Editing.IsAlike, claim.Keys.KeyMap}}
use Rattle.page_btree_gets.specs.{claim.{Errors.level_in, Map.{IsRooted, Holds}, Tree.{Tree, IsTree, rows, page_of}}, node.claim.{Node.count_in, Places.{key_cmp, Rises}}}
use Rattle.{page_btree_removes.specs.{Outcomes.IsNoNearer, Removing.{CanRemove, IsRemoved, rows_left}}, page_store.specs.claim.{Chain.AreFree, Transactions.{txn_root, over}}}
use Rattle.{page_store.specs.declared.txn.Txn.Txn, sector_device.specs.claim.Disk.Image, page_btree_gets.proofs.{Booleans.true_is, Descent.node_of, Tops.{every_key, found_rows}}}
use Rattle.page_btree_removes.proofs.{Edits.{rises_unput, found_put, remove_rows, remove_none}, Thinner.thinner_reach}
use Rattle.std.specs.FinMap as map

abbrev pub can_remove : (n : ℕ) (P : Image) (root : ℕ) (free : List ℕ) (m : KeyMap) (r : IsRooted n P root free m) (key : List ℕ) (level p : ℕ) → AreFree n free → level ≡ r.level → p ≡ root → CanRemove n P free level key p
can_remove n P root free m r key level p are same at = record {
  tree = r.tree;
  low = [];
  high = None;
  tree_is = subst (λ d. IsTree P d [] None r.tree) (sym same) r.stands;
  page_is = r.root_is ∙ sym at;
  sound = r.sound;
  free_are = are;
  between = every_key key;
}

-- ---- the root that is left
tree_level : (P : Image) (d : ℕ) (low : List ℕ) (high : Option (List ℕ)) (t : Tree) (p : ℕ) → IsTree P d low high t → page_of t ≡ p → level_in P p ≡ d
tree_level P d low high t p is at =
    let node = node_of P d low high t is in
    ap (λ q. level_in P q) (sym at) ∙ node.1.level ∙ node.2

pub thinner_kept : (n : ℕ) (P : Image) (root : ℕ) (free : List ℕ) (m : KeyMap) (r : IsRooted n P root free m) (Q : Image) (q d : ℕ) (low : List ℕ) (high : Option (List ℕ)) (u : Tree) → d ≡ r.level → q ≡ root → IsTree Q d low high u → page_of u ≡ page_of r.tree
    → (0 < d → count_in (Q (page_of r.tree)) ≤ count_in (P (page_of r.tree))) → IsNoNearer P root Q q
thinner_kept n P root free m r Q q d low high u same at stands page few =
    let was : level_in P root ≡ r.level = tree_level P r.level [] None r.tree root r.stands r.root_is in
    let is : level_in Q root ≡ d = tree_level Q d low high u root stands (page ∙ r.root_is) in
    thinner_reach P root Q q (inr (
      at,
      ap (λ x. level_in Q x) at ∙ is ∙ same ∙ sym was,
      λ some. subst (λ (x : ℕ). count_in (Q x) ≤ count_in (P root)) (sym at) (subst (λ (x : ℕ). count_in (Q x) ≤ count_in (P x)) r.root_is (few (omega (arith, some, was, same)))),
    ))

pub thinner_same : (P : Image) (p : ℕ) → IsNoNearer P p P p
thinner_same P p = omega arith

pub thinner_alike : (t u : Txn) (S : Image) → IsAlike t u → IsNoNearer (over t S) (txn_root t) (over u S) (txn_root u)
thinner_alike t u S alike = subst (λ (x : Image × ℕ). IsNoNearer (over t S) (txn_root t) x.0 x.1) (λ i. (sym (alike.over_is S) i, sym alike.root i)) (thinner_same (over t S) (txn_root t))

-- ---- what is left of a map
module _ (n : ℕ) (P : Image) (root : ℕ) (free : List ℕ) (m : KeyMap) (key : List ℕ) (r : IsRooted n P root free m) where
  -- the key isn't there
  pub absent_same : find key_cmp key (rows r.tree) ≡ None → map.remove m key ≡ m
  absent_same none = remove_none m key (ap (find key_cmp key) (sym r.rows_are) ∙ none)

  pub had_none : find key_cmp key (rows r.tree) ≡ None → contains_key m key ≡ false
  had_none none = ap is_some (sym (found_rows n P root free m r key) ∙ none)

  module _ (Q : Image) (left : List ℕ) (are : AreFree n free) where
    rises_map : Rises (entries m)
    rises_map = true_is (is_sorted key_cmp (entries m)) (entries_sorted m)

    rows_after : (level : ℕ) (u : Option Tree) → IsRemoved n P Q level [] None free left key r.tree u → entries (map.remove m key) ≡ rows_left u
    rows_after level u done = search (rules, remove_rows, rises_unput, rises_map)

    pub had_after : (level : ℕ) (u : Option Tree) → IsRemoved n P Q level [] None free left key r.tree u → contains_key m key ≡ true
    had_after level u done = ap is_some (sym (found_rows n P root free m r key) ∙ ap (find key_cmp key) (sym done.less.rows_are) ∙ found_put key done.less.value (rows_left u))

    -- a smaller tree at the root
    pub kept_holds : (level : ℕ) (t : Tree) → level ≡ r.level → IsRemoved n P Q level [] None free left key r.tree (Some t) → Holds n Q root left (map.remove m key)
    kept_holds level t same done = search (arith, rows_after level (Some t) done)

    -- none is left
    pub emptied_holds : (level : ℕ) → IsRemoved n P Q level [] None free left key r.tree None → Holds n Q 0 left (map.remove m key)
    emptied_holds level done = search (arith, rows_after level None done)

pub holds_at : (n k : ℕ) (P Q : Image) (root top : ℕ) (free left : List ℕ) (m : KeyMap) → k ≡ n → Q ≡ P → top ≡ root → left ≡ free → Holds n P root free m → Holds k Q top left m
holds_at n k P Q root top free left m same_n same_P same_root same_free holds = search rules

-- nothing to take away
pub none_there : (n : ℕ) (P : Image) (root : ℕ) (free : List ℕ) (m : KeyMap) (key : List ℕ) → Holds n P root free m → get m key ≡ None → Holds n P root free (map.remove m key) × (false ≡ contains_key m key)
none_there n P root free m key holds none = search (rules, remove_none m key (sym (get-entries m key) ∙ none))
