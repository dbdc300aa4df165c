-- A tree's rows stand between its bounds.
use Rattle.std.{specs.{List.AllByRecursion, Ordering.is_gt, Prelude.{Option, Some}, declared.cmp.Ordering.TheVariants.{Less, Greater}}, proofs.Common.{◌≡◌, ◌-◌, ℕ, List, false}}
use Rattle.page_btree_gets.specs.claim.{Keys.{IsBetween, IsUnder}, Tree.{Tree, Forest, leaf, inner, one, more, first_key, rows, forest_rows, IsTree, AreTrees}}
use Rattle.{page_btree_node.specs.claim.{Entries.Entry, Places.key_cmp}, sector_device.specs.claim.Disk.Image}
use Rattle.page_btree_gets.proofs.Rows.{Each, all_map, all_append, wider_under, less_from, less_is_from, key_after}

abbrev pub AreBetween : List ℕ → Option (List ℕ) → List Entry → Type 0
AreBetween low high es = AllByRecursion (λ e. IsBetween low high e.0) es

pub wider_high : (low q : List ℕ) (high : Option (List ℕ)) → IsUnder q high → (x : List ℕ) → IsBetween low (Some q) x → IsBetween low high x
wider_high low q high under x b = record { from = b.from; under = wider_under x q high b.under under }

pub wider_low : (low q : List ℕ) (high : Option (List ℕ)) → key_cmp low q ≡ Less → (x : List ℕ) → IsBetween q high x → IsBetween low high x
wider_low low q high less x b = record { from = less_is_from low x (less_from low q x less b.from); under = b.under }

mutual
  pub within_tree : (P : Image) (d : ℕ) (low : List ℕ) (high : Option (List ℕ)) (t : Tree) → IsTree P d low high t → AreBetween low high (rows t)
  within_tree P d low high (leaf p es) is = is.1.within
  within_tree P d low high (inner p f) is = within_trees P (d - 1) low high f is.2

  pub within_trees : (P : Image) (d : ℕ) (low : List ℕ) (high : Option (List ℕ)) (f : Forest) → AreTrees P d low high f → AreBetween low high (forest_rows f)
  within_trees P d low high (one k t) is = within_tree P d low high t is
  within_trees P d low high (more k t f) is =
      all_append (λ e. IsBetween low high e.0) (rows t) (forest_rows f)
      (all_map (λ e. IsBetween low (Some (first_key f)) e.0) (λ e. IsBetween low high e.0) (λ e b. wider_high low (first_key f) high is.1.under e.0 b) (rows t) (within_tree P d low (Some (first_key f)) t is.0))
      (all_map (λ e. IsBetween (first_key f) high e.0) (λ e. IsBetween low high e.0) (λ e b. wider_low low (first_key f) high is.1.above e.0 b) (forest_rows f) (within_trees P d (first_key f) high f is.2))

-- rows below a bound that isn't above the key, and rows from a bound on that is above it
pub rows_after : (P : Image) (d : ℕ) (low q key : List ℕ) (t : Tree) → IsTree P d low (Some q) t → is_gt (key_cmp q key) ≡ false → Each Greater key (rows t)
rows_after P d low q key t is from = all_map (λ e. IsBetween low (Some q) e.0) (λ e. key_cmp key e.0 ≡ Greater) (λ e b. key_after q key from e.0 b.under) (rows t) (within_tree P d low (Some q) t is)

pub rows_before : (P : Image) (d : ℕ) (q : List ℕ) (high : Option (List ℕ)) (key : List ℕ) (f : Forest) → AreTrees P d q high f → key_cmp key q ≡ Less → Each Less key (forest_rows f)
rows_before P d q high key f is less = all_map (λ e. IsBetween q high e.0) (λ e. key_cmp key e.0 ≡ Less) (λ e b. less_from key q e.0 less b.from) (forest_rows f) (within_trees P d q high f is)
