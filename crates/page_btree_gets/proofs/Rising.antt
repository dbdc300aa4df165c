-- The keys of a node above the leaves rise after the first.
use Rattle.std.specs.{Cmp.Lexicographic.nat_list_cmp_total, FinMap.{is_sorted, Entries.below_all}, Ordering.{is_gt, is_lt}, Prelude.Option, declared.cmp.Ordering.TheVariants.Less}
use Rattle.std.proofs.{Common.{◌≡◌, ◌<◌, ◌-◌, ℕ, List, drop, true, false, refl, sym, ap, subst, arith}, lemmas.{Bool.and_from, Cmp.tied_itself}}
use Rattle.page_btree_gets.specs.{Getting.CanGet, claim.Tree.{Tree, Forest, leaf, inner, one, more, page_of, first_key, links, IsTree, AreTrees}}
use Rattle.{page_btree_node.{specs.{Searching.RisesAfter, claim.{Node.{Node, IsNode}, Places.{key_cmp, Rises}}}, proofs.Laws.node_unique}, sector_device.specs.claim.Disk.Image}
use Rattle.page_btree_gets.proofs.Rows.{from_then, less_is_from}

below_links : (x : List ℕ) (f : Forest) → key_cmp x (first_key f) ≡ Less → below_all key_cmp x (drop 1 (links f)) ≡ true → below_all key_cmp x (links f) ≡ true
below_links x (one q u) less rest = and_from (is_lt (key_cmp x q)) true (ap is_lt less) refl
below_links x (more q u f) less rest = and_from (is_lt (key_cmp x q)) (below_all key_cmp x (links f)) (ap is_lt less) rest

sorted_links : (f : Forest) → below_all key_cmp (first_key f) (drop 1 (links f)) ≡ true → Rises (drop 1 (links f)) → Rises (links f)
sorted_links (one q u) below rises = refl
sorted_links (more q u f) below rises = and_from (below_all key_cmp q (links f)) (is_sorted key_cmp (links f)) below rises

after_low : (P : Image) (d : ℕ) (low : List ℕ) (high : Option (List ℕ)) (f : Forest) → AreTrees P d low high f → (x : List ℕ) → is_gt (key_cmp x low) ≡ false → below_all key_cmp x (drop 1 (links f)) ≡ true
after_low P d low high (one k t) is x from = refl
after_low P d low high (more k t f) is x from =
    let less : key_cmp x (first_key f) ≡ Less = from_then x low (first_key f) (key_cmp x low) refl from is.1.above in
    below_links x f less (after_low P d (first_key f) high f is.2 x (less_is_from x (first_key f) less))

links_rise : (P : Image) (d : ℕ) (low : List ℕ) (high : Option (List ℕ)) (f : Forest) → AreTrees P d low high f → RisesAfter (links f)
links_rise P d low high (one k t) is = refl
links_rise P d low high (more k t f) is =
    sorted_links f (after_low P d (first_key f) high f is.2 (first_key f) (ap is_gt (tied_itself nat_list_cmp_total (first_key f)))) (links_rise P d (first_key f) high f is.2)

pub tree_rises : (P : Image) (d : ℕ) (low : List ℕ) (high : Option (List ℕ)) (t : Tree) (page : List ℕ) → IsTree P d low high t → page ≡ P (page_of t) → 0 < d → (node : Node) → IsNode page node → RisesAfter node.entries
tree_rises P d low high (leaf p es) page there page_is some node is = absurd (let none = there.0 in omega arith)
tree_rises P d low high (inner p f) page there page_is some node is =
    let same : node ≡ record { level = d; entries = links f } = node_unique page node (record { level = d; entries = links f }) is (subst (λ bytes. IsNode bytes (record { level = d; entries = links f })) (sym page_is) there.1) in
    subst (λ (n : Node). RisesAfter n.entries) (sym same) (links_rise P (d - 1) low high f there.2)

pub node_rises : (n : ℕ) (P : Image) (d : ℕ) (key page : List ℕ) → CanGet n P d key page → 0 < d → (node : Node) → IsNode page node → RisesAfter node.entries
node_rises n P d key page can some node is = tree_rises P d can.low can.high can.tree page can.tree_is can.page_is some node is
