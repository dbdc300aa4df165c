-- What keeps a map, and that pages hold one map alone.
use Rattle.std.{specs.FinMap.{entries, empty, len-entries, len-empty, same_entries_map}, proofs.Common.{rules, inl, inr, ⊎_elim, refl, sym, ap, subst, ◌∙◌, arith, length-append}}
use Rattle.std.{specs.Prelude.{◌≡◌, ◌≢◌, ◌⊎◌, ◌<◌, ◌≤◌, ◌+◌, ◌-◌, ◌*◌, ◌^◌, ℕ, List, [], length, drop, Option, Some}, proofs.lemmas.List.nil_from_length}
use Rattle.{page_btree_gets.specs.{Map.OpensMap, claim.{Keys.KeyMap, Map.{Holds, InTxn}}}, page_btree_node.specs.{Entries.{child_in, key_at, value_at}, claim.Node.{Node, IsNode}}}
use Rattle.page_btree_gets.specs.claim.Tree.{Tree, Forest, leaf, inner, one, more, first_key, links, page_of, rows, forest_rows, owns, forest_owns, size, forest_size, IsTree, AreTrees}
use Rattle.{page_btree_node.specs.claim.{Entries.{Entry, child_bytes}, Places.key_cmp}, page_store.specs.{claim.Chain.{IsPages, root_in, free_in}, declared.txn.Txn.Txn}}
use Rattle.page_store.specs.{claim.Transactions.{txn_pages, txn_root, over, free_over}, gate_journal.{Store.IsBeforeOrAfter, claim.Store.{home, overlay}}}
use Rattle.{sector_device.specs.claim.Disk.Image, page_btree_gets.proofs.Descent.{some_links, owns_page}, page_btree_node.proofs.Editing.count_small}
use Rattle.page_btree_node.proofs.Laws.{node_unique, child_written}

-- pages that agree on a tree's own hold it both
mutual
  pub tree_same : (P Q : Image) (d : ℕ) (low : List ℕ) (high : Option (List ℕ)) (t : Tree) → ((q : ℕ) → owns t q → Q q ≡ P q) → IsTree P d low high t → IsTree Q d low high t
  tree_same P Q d low high (leaf p es) same is = search rules
  tree_same P Q d low high (inner p f) same is = (
    is.0,
    subst (λ bytes. IsNode bytes (record { level = d; entries = links f })) (sym (same p (inl refl))) is.1,
    trees_same P Q (d - 1) low high f (λ q own. same q (inr own)) is.2,
  )

  pub trees_same : (P Q : Image) (d : ℕ) (low : List ℕ) (high : Option (List ℕ)) (f : Forest) → ((q : ℕ) → forest_owns f q → Q q ≡ P q) → AreTrees P d low high f → AreTrees Q d low high f
  trees_same P Q d low high (one k t) same is = tree_same P Q d low high t same is
  trees_same P Q d low high (more k t f) same is = (
    tree_same P Q d low (Some (first_key f)) t (λ q own. same q (inl own)) is.0,
    is.1,
    trees_same P Q d (first_key f) high f (λ q own. same q (inr own)) is.2,
  )

-- only page 0 changed
pub holds_same : (n : ℕ) (P Q : Image) (root : ℕ) (free : List ℕ) (m : KeyMap) → ((q : ℕ) → q ≢ 0 → Q q ≡ P q) → Holds n P root free m → Holds n Q root free m
holds_same n P Q root free m same holds = record { free_are = holds.free_are; held = search (rules, tree_same) }

-- a commit's pages hold what the transaction reads
pub prepared_holds : (t : Txn) (P Q : Image) (m : KeyMap) → InTxn t P m → ((q : ℕ) → q ≢ 0 → Q q ≡ over t P q) → root_in Q ≡ txn_root t → free_in Q ≡ free_over t P → Holds (txn_pages t) Q (root_in Q) (free_in Q) m
prepared_holds t P Q m holds same root free = search (rules, holds_same (txn_pages t) (over t P) Q (txn_root t) (free_over t P) m same holds)

-- and a new transaction reads what the pages hold
pub begun_holds : (t : Txn) (P : Image) (m : KeyMap) → Holds (txn_pages t) P (root_in P) (free_in P) m → ((q : ℕ) → over t P q ≡ P q) → txn_root t ≡ root_in P → free_over t P ≡ free_in P → InTxn t P m
begun_holds t P m holds same root free =
    subst (λ (r : ℕ). Holds (txn_pages t) (over t P) r (free_over t P) m) (sym root) (subst (λ (f : List ℕ). Holds (txn_pages t) (over t P) (root_in P) f m) (sym free) (holds_same (txn_pages t) P (over t P) (root_in P) (free_in P) m (λ q some. same q) holds))

-- an image with the pages before a commit or those after it opens to the map before or to the map after
pub opens_maps : (sectors J n : ℕ) (ws : List (ℕ × List ℕ)) (P : Image) (m next : KeyMap) (c : Image) → home J + n ≡ sectors → Holds n P (root_in P) (free_in P) m → Holds n (overlay ws P) (root_in (overlay ws P)) (free_in (overlay ws P)) next
    → IsBeforeOrAfter J n ws P c → OpensMap sectors m c ⊎ OpensMap sectors next c
opens_maps sectors J n ws P m next c whole holds holds_then is = search rules

pub no_entries : entries (empty {X = List ℕ} {R = key_cmp}) ≡ []
no_entries = nil_from_length (entries empty) (sym (len-entries {R = key_cmp} empty) ∙ len-empty key_cmp (List ℕ))

-- a new store holds the map without rows
pub new_holds : (n : ℕ) (P : Image) → root_in P ≡ 0 → IsPages n P → length (free_in P) + 1 ≡ n → Holds n P (root_in P) (free_in P) empty
new_holds n P root sound whole = search (rules, no_entries)

-- ---- one map
pub page_is : (p q : ℕ) → p < 2 ^ 32 → q < 2 ^ 32 → child_bytes p ≡ child_bytes q → p ≡ q
page_is p q a b same = sym (child_written p a) ∙ ap child_in same ∙ child_written q b

abbrev pub AreSmall : Tree → Type 0
AreSmall t = (q : ℕ) → owns t q → q < 2 ^ 32

abbrev pub AllSmall : Forest → Type 0
AllSmall f = (q : ℕ) → forest_owns f q → q < 2 ^ 32

mutual
  pub one_tree : (P : Image) (d e : ℕ) (low low' : List ℕ) (high high' : Option (List ℕ)) (t u : Tree) → AreSmall t → AreSmall u → IsTree P d low high t → IsTree P e low' high' u → page_of t ≡ page_of u → t ≡ u
  one_tree P d e low low' high high' (leaf p es) (leaf q fs) small small' is is' same =
      let rows : es ≡ fs = ap (λ (n : Node). n.entries) (node_unique (P q) (record { level = 0; entries = es }) (record { level = 0; entries = fs }) (subst (λ (x : ℕ). IsNode (P x) (record { level = 0; entries = es })) same is.1.node) is'.1.node) in
      λ i. leaf (same i) (rows i)
  one_tree P d e low low' high high' (inner p f) (inner q g) small small' is is' same =
      let node = node_unique (P q) (record { level = d; entries = links f }) (record { level = e; entries = links g }) (subst (λ (x : ℕ). IsNode (P x) (record { level = d; entries = links f })) same is.1) is'.1 in
      let below : f ≡ g = one_forest P (d - 1) (e - 1) low low' high high' f g (λ x own. small x (inr own)) (λ x own. small' x (inr own)) is.2 is'.2 (ap (λ (n : Node). n.entries) node) in
      λ i. inner (same i) (below i)
  one_tree P d e low low' high high' _ _ small small' is is' same = search (rules, node_unique)

  pub one_forest : (P : Image) (d e : ℕ) (low low' : List ℕ) (high high' : Option (List ℕ)) (f g : Forest) → AllSmall f → AllSmall g → AreTrees P d low high f → AreTrees P e low' high' g → links f ≡ links g → f ≡ g
  one_forest P d e low low' high high' (one k t) (one q u) small small' is is' same =
      search (rules, one_tree P d e low low' high high' t u small small' is is' (page_is (page_of t) (page_of u) (small _ (owns_page t)) (small' _ (owns_page u)) (ap (λ (l : List Entry). value_at l 0) same)))
  one_forest P d e low low' high high' (one k t) (more q u g) small small' is is' same = absurd (let n : 0 ≡ length (links g) = ap (λ (l : List Entry). length (drop 1 l)) same in let some = some_links g in omega arith)
  one_forest P d e low low' high high' (more k t f) (one q u) small small' is is' same = absurd (let n : length (links f) ≡ 0 = ap (λ (l : List Entry). length (drop 1 l)) same in let some = some_links f in omega arith)
  one_forest P d e low low' high high' (more k t f) (more q u g) small small' is is' same =
      let key : k ≡ q = ap (λ (l : List Entry). key_at l 0) same in
      let here : t ≡ u = one_tree P d e low low' (Some (first_key f)) (Some (first_key g)) t u (λ x own. small x (inl own)) (λ x own. small' x (inl own)) is.0 is'.0 (page_is (page_of t) (page_of u) (small _ (inl (owns_page t))) (small' _ (inl (owns_page u))) (ap (λ (l : List Entry). value_at l 0) same)) in
      let rest : f ≡ g = one_forest P d e (first_key f) (first_key g) high high' f g (λ x own. small x (inr own)) (λ x own. small' x (inr own)) is.2 is'.2 (ap (drop 1) same) in
      λ i. more (key i) (here i) (rest i)

-- pages with a root and free pages hold one map at most
pub one_map : (n : ℕ) (P : Image) (root : ℕ) (free : List ℕ) (m m' : KeyMap) → n ≤ 2 ^ 32 → Holds n P root free m → Holds n P root free m' → m ≡ m'
one_map n P root free m m' few holds holds' = same_entries_map m m' (search (rules, owns_page, one_tree))

-- ---- few rows

mutual
  few_in : (P : Image) (d : ℕ) (low : List ℕ) (high : Option (List ℕ)) (t : Tree) → IsTree P d low high t → length (rows t) ≤ 1364 * size t
  few_in P d low high (leaf p es) is = let fits = is.1.node.fits in let few = count_small es in omega arith
  few_in P d low high (inner p f) is = let few = few_in_all P (d - 1) low high f is.2 in omega arith

  few_in_all : (P : Image) (d : ℕ) (low : List ℕ) (high : Option (List ℕ)) (f : Forest) → AreTrees P d low high f → length (forest_rows f) ≤ 1364 * forest_size f
  few_in_all P d low high (one k t) is = few_in P d low high t is
  few_in_all P d low high (more k t f) is =
      omega (arith, few_in P d low (Some (first_key f)) t is.0, few_in_all P d (first_key f) high f is.2, length-append (rows t) (forest_rows f))

-- a page has 1,364 rows at most
pub few_rows : (n : ℕ) (P : Image) (root : ℕ) (free : List ℕ) (m : KeyMap) → Holds n P root free m → length (entries m) ≤ 1364 * n
few_rows n P root free m holds = ⊎_elim
    (λ bare. let none : length (entries m) ≡ 0 = ap (λ (es : List Entry). length es) bare.none in omega arith)
    (λ r. search (rules, few_in))
    holds.held
