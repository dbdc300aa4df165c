-- The rows of a tree rise, so a map has them.
use Rattle.std.specs.{FinMap.{entries, from_sorted, entries-from_sorted}, List.AllByRecursion, Ordering.is_gt, Prelude.{Option, Some}, declared.cmp.Ordering.TheVariants.Less}
use Rattle.{std.proofs.Common.{◌≡◌, ◌-◌, ℕ, false, List, [], ◌∷◌, ◌++◌, sym, subst, T}, page_btree_gets.specs.{claim.Keys.{KeyMap, IsBetween}, node.claim.Entries.Entry}}
use Rattle.page_btree_gets.specs.{claim.Tree.{Tree, Forest, leaf, inner, one, more, first_key, rows, forest_rows, IsTree, AreTrees}, node.claim.Places.{key_cmp, Rises}}
use Rattle.{sector_device.specs.claim.Disk.Image, page_btree_gets.proofs.{Rows.{all_append, all_map, less_from, rises_cons, rises_split}, Within.{within_tree, within_trees}}}

rises_append : (q : List ℕ) (xs ys : List Entry) → Rises xs → Rises ys → AllByRecursion (λ e. key_cmp e.0 q ≡ Less) xs → AllByRecursion (λ e. is_gt (key_cmp q e.0) ≡ false) ys → Rises (xs ++ ys)
rises_append q [] ys here there under from = there
rises_append q (x ∷ xs) ys here there under from =
    let r = rises_split x xs here in
    let after = all_map (λ e. is_gt (key_cmp q e.0) ≡ false) (λ e. key_cmp x.0 e.0 ≡ Less) (λ e least. less_from x.0 q e.0 under.0 least) ys from in
    rises_cons x (xs ++ ys) (all_append (λ e. key_cmp x.0 e.0 ≡ Less) xs ys r.0 after) (rises_append q xs ys r.1 there under.1 from)

mutual
  pub rows_rise : (P : Image) (d : ℕ) (low : List ℕ) (high : Option (List ℕ)) (t : Tree) → IsTree P d low high t → Rises (rows t)
  rows_rise P d low high (leaf p es) is = is.1.rises
  rows_rise P d low high (inner p f) is = all_rise P (d - 1) low high f is.2

  pub all_rise : (P : Image) (d : ℕ) (low : List ℕ) (high : Option (List ℕ)) (f : Forest) → AreTrees P d low high f → Rises (forest_rows f)
  all_rise P d low high (one k t) is = rows_rise P d low high t is
  all_rise P d low high (more k t f) is = rises_append (first_key f) (rows t) (forest_rows f)
      (rows_rise P d low (Some (first_key f)) t is.0) (all_rise P d (first_key f) high f is.2)
      (all_map (λ e. IsBetween low (Some (first_key f)) e.0) (λ e. key_cmp e.0 (first_key f) ≡ Less) (λ e b. b.under) (rows t) (within_tree P d low (Some (first_key f)) t is.0))
      (all_map (λ e. IsBetween (first_key f) high e.0) (λ e. is_gt (key_cmp (first_key f) e.0) ≡ false) (λ e b. b.from) (forest_rows f) (within_trees P d (first_key f) high f is.2))

pub map_of_tree : Tree → KeyMap
map_of_tree t = from_sorted (rows t)

pub rows_of_map : (P : Image) (d : ℕ) (low : List ℕ) (high : Option (List ℕ)) (t : Tree) → IsTree P d low high t → rows t ≡ entries (map_of_tree t)
unfolding map_of_tree
rows_of_map P d low high t is = sym (entries-from_sorted key_cmp (rows t) (subst T (sym (rows_rise P d low high t is)) tt))
