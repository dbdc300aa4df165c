-- A page that isn't free and is no node's above the leaves is a leaf of the tree, and what is found in it is what the map has.
use Rattle.std.specs.{FinMap.{find, entries, get as row_at, get-entries}, List.AllByRecursion, Ordering.{is_eq, eq_by_cmp}, Prelude.{Option, Some, None, IfSome, take}}
use Rattle.{std.{specs.declared.cmp.Ordering.{Ordering, TheVariants.Equal}, proofs.lemmas.Bool.cases_eq}, page_btree_gets.specs.{Getting.IsCopied, claim.Keys.{KeyMap, IsBetween}}}
use Rattle.std.proofs.Common.{◌≡◌, ◌≢◌, ◌⊎◌, ⊎_elim, inl, inr, ℕ, zero, suc, ◌+◌, ◌-◌, ◌<◌, List, [], ◌∷◌, ◌++◌, length, Bool, true, cond, refl, sym, ap, subst, ◌∙◌, arith}
use Rattle.{page_btree_gets.specs.claim.Map.InTxn, page_btree_node.specs.claim.{Entries.Entry, Node.{Node, IsNode}, Places.{key_cmp, Rises}}, page_store.specs.declared.txn.Txn.Txn}
use Rattle.page_btree_gets.specs.claim.Tree.{Tree, Forest, leaf, inner, one, more, first_key, links, rows, forest_rows, owns, forest_owns, size, forest_size, IsTree, AreTrees, IsApart, AreApart}
use Rattle.page_store.{specs.{claim.{Chain.{is_blank, chain, IsIn, AreFree}, Transactions.{txn_pages, over, free_over}}, gate_journal.claim.Store.word}, proofs.Chains.room_left}
use Rattle.{sector_device.specs.claim.Disk.Image, page_btree_gets.proofs.{Booleans.either, Rows.find_right, Within.{rows_after, within_trees}}}
use Rattle.page_btree_node.proofs.Laws.{same_key}

-- ---- numbers of pages
is_there : (q : ℕ) (ps : List ℕ) → IsIn q ps ⊎ (IsIn q ps → ⊥)
is_there q [] = inr (λ no. no)
is_there q (p ∷ ps) = elim (cases_eq q p) [
  | inl here ↦ inl (inl here)
  | inr off ↦ elim (is_there q ps) [ inl deep ↦ inl (inr deep) | inr none ↦ inr (λ there. ⊎_elim off none there) ]
]

pub in_one : (q : ℕ) (xs ys : List ℕ) → IsIn q (xs ++ ys) → IsIn q xs ⊎ IsIn q ys
in_one q [] ys there = inr there
in_one q (x ∷ xs) ys (inl here) = inl (inl here)
in_one q (x ∷ xs) ys (inr there) = elim (in_one q xs ys there) [ inl a ↦ inl (inr a) | inr b ↦ inr b ]

pub both_free : (n : ℕ) (xs ys : List ℕ) → AreFree n xs → AreFree n ys → ((q : ℕ) → IsIn q xs → IsIn q ys → ⊥) → AreFree n (xs ++ ys)
both_free n [] ys a b off = b
both_free n (x ∷ xs) ys a b off = (a.0, a.1, (λ there. ⊎_elim a.2 (off x (inl refl)) (in_one x xs ys there)), both_free n xs ys a.3 b (λ q there. off q (inr there)))

-- a free page has no bytes but its link
free_blank : (n : ℕ) (P : Image) (q first count : ℕ) → AreFree n (chain P first count) → IsIn q (chain P first count) → is_blank (P q) ≡ true
free_blank n P q first zero free there = absurd there
free_blank n P q first (suc count) free (inl here) = search arith
free_blank n P q first (suc count) free (inr there) = free_blank n P q (word (P first) 0) count free.3 there

-- ---- those of a tree
-- its pages and those that are free, each once
record AreAll (n : ℕ) (pages : ℕ → Type 0) (count : ℕ) (free : List ℕ) : Type 0 where
  all : List ℕ
  apart : AreFree n all
  only : (q : ℕ) → IsIn q all → pages q ⊎ IsIn q free
  long : length all ≡ count + length free

mutual
  tree_all : (n : ℕ) (t : Tree) (free : List ℕ) → IsApart t → ((q : ℕ) → owns t q → (0 < q) × (q < n)) → AreFree n free → ((q : ℕ) → owns t q → IsIn q free → ⊥) → AreAll n (owns t) (size t) free
  tree_all n (leaf p es) free apart below are off = record { all = p ∷ free; apart = ((below p refl).0, (below p refl).1, off p refl, are); only = λ q there. there; long = omega arith }
  tree_all n (inner p f) free apart below are off =
      let rest = forest_all n f free apart.1 (λ q own. below q (inr own)) are (λ q own. off q (inr own)) in
      record {
        all = p ∷ rest.all;
        apart = ((below p (inl refl)).0, (below p (inl refl)).1, (λ there. ⊎_elim apart.0 (off p (inl refl)) (rest.only p there)), rest.apart);
        only = λ q there. ⊎_elim (λ here. inl (inl here)) (λ deep. ⊎_elim (λ own. inl (inr own)) (λ x. inr x) (rest.only q deep)) there;
        long = omega (arith, rest.long);
      }

  forest_all : (n : ℕ) (f : Forest) (free : List ℕ) → AreApart f → ((q : ℕ) → forest_owns f q → (0 < q) × (q < n)) → AreFree n free → ((q : ℕ) → forest_owns f q → IsIn q free → ⊥) → AreAll n (forest_owns f) (forest_size f) free
  forest_all n (one k t) free apart below are off = tree_all n t free apart below are off
  forest_all n (more k t f) free apart below are off =
      let rest = forest_all n f free apart.2 (λ q own. below q (inr own)) are (λ q own. off q (inr own)) in
      let both = tree_all n t rest.all apart.0 (λ q own. below q (inl own)) rest.apart (λ q own there. ⊎_elim (apart.1 q own) (off q (inl own)) (rest.only q there)) in
      record {
        all = both.all;
        apart = both.apart;
        only = λ q there. ⊎_elim (λ own. inl (inl own)) (λ deep. ⊎_elim (λ own. inl (inr own)) (λ x. inr x) (rest.only q deep)) (both.only q there);
        long = omega (arith, both.long, rest.long);
      }

-- ---- a key that is found
pub is_equal : (o : Ordering) → is_eq o ≡ true → o ≡ Equal
is_equal Equal h = refl
is_equal _ h = cc

found_left : (key : List ℕ) (xs ys : List Entry) (value : List ℕ) → find key_cmp key xs ≡ Some value → find key_cmp key (xs ++ ys) ≡ Some value
found_left key [] ys value found = cc
found_left key (x ∷ xs) ys value found = elim (either (eq_by_cmp key_cmp key x.0)) [
  | inl tied ↦
      ap (λ (b : Bool). cond b (Some x.1) (find key_cmp key (xs ++ ys))) tied ∙ sym (ap (λ (b : Bool). cond b (Some x.1) (find key_cmp key xs)) tied) ∙ found
  | inr not ↦
      ap (λ (b : Bool). cond b (Some x.1) (find key_cmp key (xs ++ ys))) not
      ∙ found_left key xs ys value (sym (ap (λ (b : Bool). cond b (Some x.1) (find key_cmp key xs)) not) ∙ found)
]

found_is : (P : List ℕ → Type 0) (key : List ℕ) (es : List Entry) (value : List ℕ) → AllByRecursion (λ e. P e.0) es → find key_cmp key es ≡ Some value → P key
found_is P key [] value all found = cc
found_is P key (e ∷ es) value all found = elim (either (eq_by_cmp key_cmp key e.0)) [
  | inl tied ↦ subst P (sym (same_key key e.0 (is_equal (key_cmp key e.0) tied))) all.0
  | inr not ↦ found_is P key es value all.1 (sym (ap (λ (b : Bool). cond b (Some e.1) (find key_cmp key es)) not) ∙ found)
]

-- ---- a leaf of the tree
pub record IsPlaced (bytes : List ℕ) (all : List Entry) : Type 0 where
  pub rows_in : List Entry
  pub node : IsNode bytes (record { level = 0; entries = rows_in })
  pub rises : Rises rows_in
  pub found : (key value : List ℕ) → find key_cmp key rows_in ≡ Some value → find key_cmp key all ≡ Some value

mutual
  in_tree : (P : Image) (d : ℕ) (low : List ℕ) (high : Option (List ℕ)) (t : Tree) → IsTree P d low high t → (p : ℕ) → owns t p → ((node : Node) → IsNode (P p) node → node.level ≡ 0) → IsPlaced (P p) (rows t)
  in_tree P d low high (leaf q es) is p own none = record {
    rows_in = es;
    node = subst (λ (r : ℕ). IsNode (P r) (record { level = 0; entries = es })) (sym own) is.1.node;
    rises = is.1.rises;
    found = λ key value there. there;
  }
  in_tree P d low high (inner q f) is p (inl here) none =
      let at_it = none (record { level = d; entries = links f }) (subst (λ (r : ℕ). IsNode (P r) (record { level = d; entries = links f })) (sym here) is.1) in
      let some = is.0 in absurd (omega arith)
  in_tree P d low high (inner q f) is p (inr deep) none = in_forest P (d - 1) low high f is.2 p deep none

  in_forest : (P : Image) (d : ℕ) (low : List ℕ) (high : Option (List ℕ)) (f : Forest) → AreTrees P d low high f → (p : ℕ) → forest_owns f p → ((node : Node) → IsNode (P p) node → node.level ≡ 0) → IsPlaced (P p) (forest_rows f)
  in_forest P d low high (one k t) is p own none = in_tree P d low high t is p own none
  in_forest P d low high (more k t f) is p (inl own) none =
      let at_it = in_tree P d low (Some (first_key f)) t is.0 p own none in
      record { rows_in = at_it.rows_in; node = at_it.node; rises = at_it.rises; found = λ key value there. found_left key (rows t) (forest_rows f) value (at_it.found key value there) }
  in_forest P d low high (more k t f) is p (inr own) none =
      let at_it = in_forest P d (first_key f) high f is.2 p own none in
      let found : (key value : List ℕ) → find key_cmp key at_it.rows_in ≡ Some value → find key_cmp key (rows t ++ forest_rows f) ≡ Some value = λ key value there.
      let after = at_it.found key value there in
      let between = found_is (λ x. IsBetween (first_key f) high x) key (forest_rows f) value (within_trees P d (first_key f) high f is.2) after in
      find_right key (rows t) (forest_rows f) (rows_after P d low (first_key f) key t is.0 between.from) ∙ after in
      search found

-- ---- of a transaction's map
pub placed : (t : Txn) (S : Image) (m : KeyMap) (p : ℕ) → InTxn t S m → p ≢ 0 → p < txn_pages t → ((node : Node) → IsNode (over t S p) node → node.level ≡ 0) → (is_blank (over t S p) ≡ true → ⊥) → IsPlaced (over t S p) (entries m)
placed t S m p holds some below none used =
    let n = txn_pages t in
    let P = over t S in
    let free = free_over t S in
    let not_free : IsIn p free → ⊥ = λ there. used (free_blank n P p _ _ holds.free_are there) in
    let positive : 0 < p = omega arith in
    elim holds.held [
      | inl bare ↦ search (arith, room_left n p free positive below holds.free_are not_free)
      | inr r ↦
          let pages = tree_all n r.tree free r.sound.apart r.sound.below holds.free_are r.sound.used in
          elim (is_there p pages.all) [
            | inl there ↦ ⊎_elim (λ own. subst (λ (all : List Entry). IsPlaced (P p) all) r.rows_are (in_tree P r.level [] None r.tree r.stands p own none)) (λ free. absurd (not_free free)) (pages.only p there)
            | inr off ↦ absurd (omega (arith, room_left n p pages.all positive below pages.apart off, pages.long, r.whole))
          ]
    ]

-- by the bytes of the page as they were lent
pub placed_as : (t : Txn) (S : Image) (m : KeyMap) (p : ℕ) {bytes : List ℕ} → InTxn t S m → p ≢ 0 → p < txn_pages t → bytes ≡ over t S p → ((node : Node) → IsNode bytes node → node.level ≡ 0) → (is_blank bytes ≡ true → ⊥) → IsPlaced bytes (entries m)
placed_as t S m p {bytes} holds some below there none used =
    subst (λ (b : List ℕ). IsPlaced b (entries m)) (sym there)
    (placed t S m p holds some below (λ node is. none node (subst (λ (b : List ℕ). IsNode b node) (sym there) is)) (λ blank. used (ap is_blank there ∙ blank)))

-- a value that was copied is the map's
pub some_copied : (m : KeyMap) (key into : List ℕ) (es : List Entry) (found : Option ℕ) → ((value : List ℕ) → find key_cmp key es ≡ Some value → find key_cmp key (entries m) ≡ Some value) → IsCopied found into (find key_cmp key es)
    → IfSome found (λ length_is. IsCopied (Some length_is) into (row_at m key))
some_copied m key into es None gives is = tt
some_copied m key into es (Some n) gives is = sym (get-entries m key ∙ gives (take n into) (sym is))
