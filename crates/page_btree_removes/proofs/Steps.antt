-- A remove at a leaf, and one step above it.
use Rattle.std.specs.{FinMap.find, Option.option_map, Ordering.is_gt, Prelude.{Option, Some, None, remove, Result, Ok, Err, IfOk, true}, declared.cmp.Ordering.TheVariants.Less}
use Rattle.std.proofs.Common.{rules, ◌≡◌, ◌≢◌, inl, inr, ℕ, ◌-◌, ◌<◌, ◌≤◌, ◌^◌, List, length, refl, sym, ap, subst, ◌∙◌, arith, ◌⊎◌, ◌+◌, ◌++◌, ⊎_elim, [], ◌∷◌, Bool, true, false, cond}
use Rattle.{std.proofs.lemmas.List.append-nil, page_btree_gets.{specs.{Getting.{CanGet, IsLevel}, claim.{Keys.{IsBetween, IsUnder, Parts}, Map.IsSound}}, proofs.Booleans.either}}
use Rattle.page_btree_gets.specs.claim.Tree.{Tree, Forest, leaf, inner, IsTree, page_of, links, rows, owns, one, more, first_key, forest_rows, forest_owns, size, forest_size, AreTrees, IsApart, AreApart}
use Rattle.page_btree_gets.specs.{declared.error.TreeError.TheVariants.NotAStore, node.{Entries.{child_in, value_at}, Places.{IsFound, floor}, claim.Entries.{Entry, child_bytes}}}
use Rattle.{page_btree_gets.specs.node.claim.{Node.{count_in, Node, IsNode}, Places.{key_cmp, Rises}}, page_btree_removes.specs.Sparing.TakesRow}
use Rattle.page_btree_removes.specs.Removing.{unlinked_from, IsRemoved, AreRemoved, CanRemove, RemovesAt, Removes, RowRemoves, IsPutBack, IsDone, StaysAt, TakenErr, unlinked, IsLess, rows_left, owns_left, size_left, forest_rows_left, forest_owns_left, forest_size_left}
use Rattle.{page_btree_removes.specs.declared.removes.Removed.{Removed, TheVariants.{Absent, Kept, Emptied}}, page_store.specs.{claim.Chain.{IsIn, AreFree}, declared.txn.Txn.Txn}}
use Rattle.{page_store.specs.claim.Transactions.{txn_pages, over, free_over}, sector_device.specs.claim.Disk.Image, page_btree_gets.proofs.MapLaws.{tree_same, trees_same}}
use Rattle.page_btree_gets.proofs.Descent.{named, node_of, owns_page, some_links, AreUsed, ChildFor, only_child, first_child, later_child}
use Rattle.page_btree_gets.proofs.Rows.{Each, all_map, wider_under, less_from, less_is_from, put_left, put_right, find_left, find_right, key_before}
use Rattle.{page_btree_gets.proofs.Within.{AreBetween, rows_after, rows_before}, page_btree_removes.proofs.Edits.{put_remove, none_removed, all_unput, rises_unput}}
use Rattle.page_btree_gets.proofs.node.Laws.{less_trans}

-- ---- what a remove below one child does to all children, and to the node above them
-- ---- wider bounds
record IsWider (low q : List ℕ) (b high : Option (List ℕ)) : Type 0 where
  from : (x : List ℕ) → is_gt (key_cmp q x) ≡ false → is_gt (key_cmp low x) ≡ false
  above : (x : List ℕ) → key_cmp q x ≡ Less → key_cmp low x ≡ Less
  under : (x : List ℕ) → IsUnder x b → IsUnder x high

lower : (low q : List ℕ) (high : Option (List ℕ)) → key_cmp low q ≡ Less → IsWider low q high high
lower low q high less = record { from = λ x from. less_is_from low x (less_from low q x less from); above = λ x. less_trans low q x less; under = λ x under. under }

higher : (low q : List ℕ) (high : Option (List ℕ)) → IsUnder q high → IsWider low low (Some q) high
higher low q high under = record { from = λ x from. from; above = λ x above. above; under = λ x less. wider_under x q high less under }

mutual
  tree_wider : (P : Image) (d : ℕ) (low q : List ℕ) (b high : Option (List ℕ)) (t : Tree) → IsWider low q b high → IsTree P d q b t → IsTree P d low high t
  tree_wider P d low q b high (leaf p es) w is = (is.0, search (rules, all_map))
  tree_wider P d low q b high (inner p f) w is = (is.0, is.1, trees_wider P (d - 1) low q b high f w is.2)

  trees_wider : (P : Image) (d : ℕ) (low q : List ℕ) (b high : Option (List ℕ)) (f : Forest) → IsWider low q b high → AreTrees P d q b f → AreTrees P d low high f
  trees_wider P d low q b high (one k t) w is = tree_wider P d low q b high t w is
  trees_wider P d low q b high (more k t f) w is = (
    tree_wider P d low q (Some (first_key f)) (Some (first_key f)) t (record { from = w.from; above = w.above; under = λ x under. under }) is.0,
    record { above = w.above (first_key f) is.1.above; under = w.under (first_key f) is.1.under },
    trees_wider P d (first_key f) (first_key f) b high f (record { from = λ x from. from; above = λ x above. above; under = w.under }) is.2,
  )

-- ---- links

unlinked_links : (k key : List ℕ) (t : Tree) (f : Forest) → unlinked key (links (more k t f)) ≡ cond (is_gt (key_cmp (first_key f) key)) (links f) ((k, child_bytes (page_of t)) ∷ unlinked key (links f))
unlinked_links k key t (one q u) = refl
unlinked_links k key t (more q u f) = refl

abbrev pub links_left : Option Forest → List Entry
links_left None = []
links_left (Some f) = links f

-- the links of a node above a child of which this is left
abbrev pub links_after : List ℕ → Option Tree → List Entry → List Entry
links_after key None es = unlinked key es
links_after key (Some t) es = es

-- what is left of children, and their links, where this is left of the one that a key belongs to
abbrev pub IsLeft : (n : ℕ) (P Q : Image) (d : ℕ) (low : List ℕ) (high : Option (List ℕ)) (free left key : List ℕ) (f : Forest) (u : Option Tree) → Type 0
IsLeft n P Q d low high free left key f u = (g : Option Forest) × AreRemoved n P Q d low high free left key f g × (links_left g ≡ links_after key u (links f))

module _ (n : ℕ) (P Q : Image) (d : ℕ) (low : List ℕ) (high : Option (List ℕ)) (free left : List ℕ) (key : List ℕ) where
  module _ (k : List ℕ) (t : Tree) (f : Forest) (trees : AreTrees P d low high (more k t f)) (apart : AreApart (more k t f)) (used : AreUsed (more k t f) free) where
    -- the key was the first child's
    first_less : (u : Option Tree) (still : ℕ → Type 0) (total : ℕ) → is_gt (key_cmp (first_key f) key) ≡ true → IsRemoved n P Q d low (Some (first_key f)) free left key t u → ((q : ℕ) → still q → owns_left u q ⊎ forest_owns f q) → total ≡ size_left u + forest_size f
        → IsLess n P Q free left key (rows t ++ forest_rows f) (rows_left u ++ forest_rows f) (forest_owns (more k t f)) still (forest_size (more k t f)) total
    first_less u still total above done split total_is = search (rules, Each, rows_before, key_before, put_left, find_left)

    first_left : (u : Option Tree) → is_gt (key_cmp (first_key f) key) ≡ true → IsRemoved n P Q d low (Some (first_key f)) free left key t u → IsLeft n P Q d low high free left key (more k t f) u
    first_left None above done =
        let others = trees_same P Q d (first_key f) high f (λ q own. done.less.frame q (λ o. apart.1 q o own)) trees.2 in (
          Some f,
          record {
            stands = (trees_wider Q d low (first_key f) high high f (lower low (first_key f) high trees.1.above) others, apart.2, inr (trees.1, others));
            less = first_less None (forest_owns f) (forest_size f) above done (λ q own. inr own) (omega arith);
          },
          sym (unlinked_links k key t f ∙ ap (λ (b : Bool). cond b (links f) ((k, child_bytes (page_of t)) ∷ unlinked key (links f))) above),
        )
    first_left (Some u) above done = (
      Some (more k u f),
      record {
        stands = ((done.stands.0, trees.1, trees_same P Q d (first_key f) high f (λ q own. done.less.frame q (λ o. apart.1 q o own)) trees.2), (done.stands.1, (λ q o own. apart.1 q (done.less.owned q o).0 own), apart.2), inl refl);
        less = first_less (Some u) (forest_owns (more k u f)) (forest_size (more k u f)) above done (λ q own. own) refl;
      },
      ap (λ (p : ℕ). (k, child_bytes p) ∷ links f) done.stands.2,
    )

    -- it was a later child's
    later_less : (g : Option Forest) (still : ℕ → Type 0) (total : ℕ) → is_gt (key_cmp (first_key f) key) ≡ false → AreRemoved n P Q d (first_key f) high free left key f g → ((q : ℕ) → still q → forest_owns_left g q ⊎ owns t q) → total ≡ forest_size_left g + size t
        → IsLess n P Q free left key (rows t ++ forest_rows f) (rows t ++ forest_rows_left g) (forest_owns (more k t f)) still (forest_size (more k t f)) total
    later_less g still total from done split total_is = search (rules, Each, rows_after, put_right, find_right)

    later_links : (u : Option Tree) (es : List Entry) → is_gt (key_cmp (first_key f) key) ≡ false → es ≡ links_after key u (links f) → (k, child_bytes (page_of t)) ∷ es ≡ links_after key u (links (more k t f))
    later_links None es from same = ap (λ l. (k, child_bytes (page_of t)) ∷ l) same ∙ sym (unlinked_links k key t f ∙ ap (λ (b : Bool). cond b (links f) ((k, child_bytes (page_of t)) ∷ unlinked key (links f))) from)
    later_links (Some u) es from same = ap (λ l. (k, child_bytes (page_of t)) ∷ l) same

    later_left : (u : Option Tree) → is_gt (key_cmp (first_key f) key) ≡ false → IsLeft n P Q d (first_key f) high free left key f u → IsLeft n P Q d low high free left key (more k t f) u
    later_left u from (None, done, same) =
        let first : IsTree Q d low (Some (first_key f)) t = tree_same P Q d low (Some (first_key f)) t (λ q own. done.less.frame q (λ o. apart.1 q own o)) trees.0 in (
          Some (one k t),
          record {
            stands = (tree_wider Q d low low (Some (first_key f)) high t (higher low (first_key f) high trees.1.under) first, apart.0, inl refl);
            less = subst (λ (l : List Entry). IsLess n P Q free left key (rows t ++ forest_rows f) l (forest_owns (more k t f)) (owns t) (forest_size (more k t f)) (size t)) (append-nil (rows t))
                (later_less None (owns t) (size t) from done (λ q own. inr own) (omega arith));
          },
          later_links u [] from same,
        )
    later_left u from (Some g, done, same) =
        let first : IsTree Q d low (Some (first_key f)) t = tree_same P Q d low (Some (first_key f)) t (λ q own. done.less.frame q (λ o. apart.1 q own o)) trees.0 in (
          Some (more k t g),
          record {
            stands = (
              ⊎_elim
                  (λ same. (
                    subst (λ (b : List ℕ). IsTree Q d low (Some b) t) (sym same) first,
                    subst (λ (b : List ℕ). Parts low high b) (sym same) trees.1,
                    subst (λ (b : List ℕ). AreTrees Q d b high g) (sym same) done.stands.0,
                  ))
                  (λ next. (
                    tree_wider Q d low low (Some (first_key f)) (Some (first_key g)) t (higher low (first_key f) (Some (first_key g)) next.0.above) first,
                    record { above = less_trans low (first_key f) (first_key g) trees.1.above next.0.above; under = next.0.under },
                    next.1,
                  ))
                  done.stands.2,
              (apart.0, (λ q own there. apart.1 q own (done.less.owned q there).0), done.stands.1),
              inl refl,
            );
            less = later_less (Some g) (forest_owns (more k t g)) (forest_size (more k t g)) from done (λ q own. ⊎_elim (λ o. inr o) (λ o. inl o) own) (omega arith);
          },
          later_links u (links g) from same,
        )

  sole_left : (k : List ℕ) (t : Tree) (u : Option Tree) → IsRemoved n P Q d low high free left key t u → IsLeft n P Q d low high free left key (one k t) u
  sole_left k t None done = (None, record { stands = tt; less = done.less }, refl)
  sole_left k t (Some u) done = (Some (one k u), record { stands = (done.stands.0, done.stands.1, inl refl); less = done.less }, ap (λ (p : ℕ). (k, child_bytes p) ∷ []) done.stands.2)

-- The child for a key, and what a remove below it is to all children.
pub record HasOwner (n : ℕ) (P : Image) (d : ℕ) (low : List ℕ) (high : Option (List ℕ)) (free key : List ℕ) (f : Forest) : Type 0 where
  pub at : ChildFor P d low high key f
  pub back : (Q : Image) (left : List ℕ) (u : Option Tree) → IsRemoved n P Q d at.its_low at.its_high free left key at.child u → IsLeft n P Q d low high free left key f u

pub owner_of : (n : ℕ) (P : Image) (d : ℕ) (low : List ℕ) (high : Option (List ℕ)) (free key : List ℕ) (f : Forest) → AreTrees P d low high f → AreApart f → AreUsed f free → IsBetween low high key → HasOwner n P d low high free key f
owner_of n P d low high free key (one k t) trees apart used between = record {
  at = only_child P d low high key k t trees between;
  back = λ Q left u done. sole_left n P Q d low high free left key k t u done;
}
owner_of n P d low high free key (more k t f) trees apart used between = elim (either (is_gt (key_cmp (first_key f) key))) [
  | inl above ↦ record {
    at = first_child P d low high key k t f trees between above;
    back = λ Q left u done. first_left n P Q d low high free left key k t f trees apart used u above done;
  }
  | inr from ↦
      let rest = owner_of n P d (first_key f) high free key f trees.2 apart.2 (λ q own. used q (inr own)) (record { from = from; under = between.under }) in record {
        at = later_child P d low high key k t f trees between from rest.at;
        back = λ Q left u done. later_left n P Q d low high free left key k t f trees apart used u from (rest.back Q left u done);
      }
]

-- ---- a node
module _ (n : ℕ) (P Q R : Image) (d : ℕ) (low : List ℕ) (high : Option (List ℕ)) (free left : List ℕ) (key : List ℕ) (p : ℕ) (f : Forest) where
  pub inner_written : (g : Forest) → IsTree P d low high (inner p f) → IsApart (inner p f) → (IsIn p free → ⊥) → AreRemoved n P Q (d - 1) low high free left key f (Some g)
      → IsNode (R p) (record { level = d; entries = links g }) → ((q : ℕ) → q ≢ p → R q ≡ Q q) → IsRemoved n P R d low high free left key (inner p f) (Some (inner p g))
  inner_written g is apart used done node elsewhere =
      record {
        stands = (search (rules, trees_same), ((λ own. apart.0 (done.less.owned p own).0), done.stands.1), search rules);
        less = search arith;
      }

  pub inner_given : IsApart (inner p f) → (IsIn p free → ⊥) → 0 < p → p < n → AreRemoved n P Q (d - 1) low high free left key f None → ((q : ℕ) → q ≢ p → R q ≡ Q q)
      → IsRemoved n P R d low high free (p ∷ left) key (inner p f) None
  inner_given apart used some below done elsewhere = search rules

-- ---- a leaf
module _ (n : ℕ) (P R : Image) (d : ℕ) (low : List ℕ) (high : Option (List ℕ)) (free : List ℕ) (key : List ℕ) (p : ℕ) (es : List Entry) (i : ℕ) (found : IsFound key es i) where
  pub leaf_written : IsTree P d low high (leaf p es) → (IsIn p free → ⊥) → AreFree n free → 0 < length (remove es i)
      → IsNode (R p) (record { level = 0; entries = remove es i }) → ((q : ℕ) → q ≢ p → R q ≡ P q) → IsRemoved n P R d low high free free key (leaf p es) (Some (leaf p (remove es i)))
  leaf_written is used free_are some node elsewhere =
      let back = put_remove key es i found in
      let rises = rises_unput key (value_at es i) (remove es i) (subst Rises (sym back) is.1.rises) in
      let within = all_unput (IsBetween low high) key (value_at es i) (remove es i) (subst (λ l. AreBetween low high l) (sym back) is.1.within) in
      search (rules, none_removed)

  pub leaf_given : (IsIn p free → ⊥) → AreFree n free → 0 < p → p < n → remove es i ≡ [] → ((q : ℕ) → q ≢ p → R q ≡ P q) → IsRemoved n P R d low high free (p ∷ free) key (leaf p es) None
  leaf_given used free_are some below bare elsewhere = search rules

-- ---- at a leaf
-- what is so of each leaf at a page is so of a tree of level 0 there
pub at_leaf : (n : ℕ) (P : Image) (free : List ℕ) (low : List ℕ) (high : Option (List ℕ)) (p : ℕ) (Says : ℕ → Tree → Type 0) → ((es : List Entry) → IsTree P 0 low high (leaf p es) → IsSound n free (leaf p es) → Says 0 (leaf p es))
    → (d : ℕ) (t : Tree) → d ≡ 0 → IsTree P d low high t → page_of t ≡ p → IsSound n free t → Says d t
at_leaf n P free low high p Says all d (leaf q es) none is same sound =
    let at_0 : IsTree P 0 low high (leaf q es) = subst (λ (k : ℕ). IsTree P k low high (leaf q es)) none is in
    let here = all es (subst (λ (x : ℕ). IsTree P 0 low high (leaf x es)) same at_0) (subst (λ (x : ℕ). IsSound n free (leaf x es)) same sound) in
    subst (λ (k : ℕ). Says k (leaf q es)) (sym none) (subst (λ (x : ℕ). Says 0 (leaf x es)) (sym same) here)
at_leaf n P free low high p Says all d (inner q f) none is same sound = absurd (let some = is.0 in omega arith)

module _ (n : ℕ) (S : Image) (t0 t1 : Txn) (low : List ℕ) (high : Option (List ℕ)) (key : List ℕ) (p : ℕ) (are : AreFree n (free_over t0 S)) (es : List Entry) (is : IsTree (over t0 S) 0 low high (leaf p es)) (sound : IsSound n (free_over t0 S) (leaf p es)) where
  pub leaf_kept : TakesRow t0 t1 S p key es true → RemovesAt n (over t0 S) (over t1 S) 0 low high (free_over t0 S) (free_over t1 S) key (leaf p es) Kept
  leaf_kept done =
      let used = sound.used p refl in (
        leaf p (remove es done.0),
        subst (λ (l : List ℕ). IsRemoved n (over t0 S) (over t1 S) 0 low high (free_over t0 S) l key (leaf p es) (Some (leaf p (remove es done.0)))) (sym (done.5 n are used))
            (leaf_written n (over t0 S) (over t1 S) 0 low high (free_over t0 S) key p es done.0 done.1 is used are done.2 done.3 done.4),
        λ some. absurd (omega (arith, some)),
      )

  leaf_removes : ((q : ℕ) → q ≢ p → over t1 S q ≡ over t0 S q) → (did : Removed) → RowRemoves t0 t1 p key es did → RemovesAt n (over t0 S) (over t1 S) 0 low high (free_over t0 S) (free_over t1 S) key (leaf p es) did
  leaf_removes elsewhere Absent done = done
  leaf_removes elsewhere Kept done = leaf_kept (done.0, done.1, done.2.0, done.2.1 S, elsewhere, done.2.2 S)
  leaf_removes elsewhere Emptied done =
      let used = sound.used p refl in
      let there = sound.below p refl in
      search (done.2.1 S n are used, leaf_given n (over t0 S) (over t1 S) 0 low high (free_over t0 S) key p es done.0 done.1 used are there.0 there.1 done.2.0 elsewhere)

-- what a row's remove is below its page
pub row_removes : (n : ℕ) (S : Image) (t0 t1 : Txn) (d : ℕ) (key : List ℕ) (p : ℕ) (did : Removed) (can : CanRemove n (over t0 S) (free_over t0 S) d key p) → d ≡ 0 → ((q : ℕ) → q ≢ p → over t1 S q ≡ over t0 S q)
    → RowRemoves t0 t1 p key (rows can.tree) did → Removes (over t1 S) (free_over t1 S) can did
row_removes n S t0 t1 d key p did can none elsewhere =
    at_leaf n (over t0 S) (free_over t0 S) can.low can.high p (λ k t. RowRemoves t0 t1 p key (rows t) did → RemovesAt n (over t0 S) (over t1 S) k can.low can.high (free_over t0 S) (free_over t1 S) key t did)
    (λ es is sound. leaf_removes n S t0 t1 can.low can.high key p can.free_are es is sound elsewhere did) d can.tree none can.tree_is can.page_is can.sound

pub leaf_there : (n : ℕ) (P : Image) (free : List ℕ) (d : ℕ) (key : List ℕ) (p : ℕ) (can : CanRemove n P free d key p) → d ≡ 0 → IsNode (P p) (record { level = 0; entries = rows can.tree }) × Rises (rows can.tree)
leaf_there n P free d key p can none = search rules

-- ---- above the leaves
unlinked_from_length : (key : List ℕ) (e : Entry) (es : List Entry) → length (unlinked_from key e es) ≤ length es
unlinked_from_length key e [] = omega arith
unlinked_from_length key e (d ∷ ds) =
    let rest = unlinked_from_length key d ds in
    elim (is_gt (key_cmp d.0 key)) as (λ (b : Bool). length (cond b (d ∷ ds) (e ∷ unlinked_from key d ds)) ≤ length (d ∷ ds)) [ true ↦ omega arith | false ↦ omega arith ]

unlinked_length : (key : List ℕ) (es : List Entry) → length (unlinked key es) ≤ length es
unlinked_length key [] = omega arith
unlinked_length key (e ∷ es) = let rest = unlinked_from_length key e es in omega arith

-- what is done to the child for a key is done to the tree
pub record StepsDown (n : ℕ) (S : Image) (t0 : Txn) (d : ℕ) (low : List ℕ) (high : Option (List ℕ)) (key : List ℕ) (p child : ℕ) (t : Tree) : Type 0 where
  pub can : CanRemove n (over t0 S) (free_over t0 S) (d - 1) key child
  pub level : IsLevel n (over t0 S) (d - 1) child
  pub node : Node
  pub node_is : IsNode (over t0 S p) node
  pub some : 0 < length node.entries
  pub used : (IsIn p (free_over t0 S) → ⊥) × (0 < p)
  pub absent : find key_cmp key (rows can.tree) ≡ None → find key_cmp key (rows t) ≡ None
  pub kept : (t1 : Txn) → Removes (over t1 S) (free_over t1 S) can Kept → RemovesAt n (over t0 S) (over t1 S) d low high (free_over t0 S) (free_over t1 S) key t Kept
  pub off : (t1 : Txn) → Removes (over t1 S) (free_over t1 S) can Emptied → (over t1 S p ≡ over t0 S p) × (IsIn p (free_over t1 S) → ⊥) × AreFree n (free_over t1 S)
  pub emptied : (t1 t2 : Txn) (did : Removed) → Removes (over t1 S) (free_over t1 S) can Emptied → IsPutBack t1 t2 p (record node { entries = unlinked key node.entries }) did → ((q : ℕ) → q ≢ p → over t2 S q ≡ over t1 S q)
      → RemovesAt n (over t0 S) (over t2 S) d low high (free_over t0 S) (free_over t2 S) key t did

module _ (n : ℕ) (S : Image) (t0 : Txn) (d : ℕ) (low : List ℕ) (high : Option (List ℕ)) (key : List ℕ) (p : ℕ) (f : Forest) (is : IsTree (over t0 S) d low high (inner p f)) (sound : IsSound n (free_over t0 S) (inner p f)) where
  -- the node, an entry less, was put back
  put_back_as : (t1 t2 : Txn) (did : Removed) (g : Option Forest) → AreRemoved n (over t0 S) (over t1 S) (d - 1) low high (free_over t0 S) (free_over t1 S) key f g → links_left g ≡ unlinked key (links f)
      → IsPutBack t1 t2 p (record { level = d; entries = unlinked key (links f) }) did → ((q : ℕ) → q ≢ p → over t2 S q ≡ over t1 S q) → (IsIn p (free_over t1 S) → ⊥) → AreFree n (free_over t1 S)
      → RemovesAt n (over t0 S) (over t2 S) d low high (free_over t0 S) (free_over t2 S) key (inner p f) did
  put_back_as t1 t2 Absent g done same back elsewhere off are = absurd back
  put_back_as t1 t2 Kept None done same back elsewhere off are = absurd (let some = back.0 in let short = ap length same in omega arith)
  put_back_as t1 t2 Kept (Some g) done same back elsewhere off are = (
    inner p g,
    subst (λ (l : List ℕ). IsRemoved n (over t0 S) (over t2 S) d low high (free_over t0 S) l key (inner p f) (Some (inner p g))) (sym (back.2 S n are off))
        (inner_written n (over t0 S) (over t1 S) (over t2 S) d low high (free_over t0 S) (free_over t1 S) key p f g is sound.apart (sound.used p (inl refl)) done
        (subst (λ es. IsNode (over t2 S p) (record { level = d; entries = es })) (sym same) (back.1 S)) elsewhere),
    λ some. let a = (back.1 S).count in let b = is.1.count in let few = unlinked_length key (links f) in omega (arith, a, b, few),
  )
  put_back_as t1 t2 Emptied (Some g) done same back elsewhere off are = absurd (let some = some_links g in let short = ap length (same ∙ back.0) in omega arith)
  put_back_as t1 t2 Emptied None done same back elsewhere off are = search (rules, back.1 S n are off, inner_given)

  -- a child stays at its page: so does the node
  kept_as : (t1 : Txn) (g : Option Forest) → AreRemoved n (over t0 S) (over t1 S) (d - 1) low high (free_over t0 S) (free_over t1 S) key f g → links_left g ≡ links f
      → RemovesAt n (over t0 S) (over t1 S) d low high (free_over t0 S) (free_over t1 S) key (inner p f) Kept
  kept_as t1 None done same = absurd (let some = some_links f in let short = ap length same in omega arith)
  kept_as t1 (Some g) done same = (
    inner p g,
    inner_written n (over t0 S) (over t1 S) (over t1 S) d low high (free_over t0 S) (free_over t1 S) key p f g is sound.apart (sound.used p (inl refl)) done
        (subst (λ es. IsNode (over t1 S p) (record { level = d; entries = es })) (sym same) (subst (λ bytes. IsNode bytes (record { level = d; entries = links f })) (sym (done.less.frame p sound.apart.0)) is.1))
        (λ q other. refl),
    λ some. let same_page : count_in (over t1 S p) ≡ count_in (over t0 S p) = ap count_in (done.less.frame p sound.apart.0) in omega (arith, same_page),
  )

  step_down_at : (child : ℕ) → n ≤ 2 ^ 32 → AreFree n (free_over t0 S) → IsBetween low high key → ((node : Node) → IsNode (over t0 S p) node → option_map child_in (floor key node.entries) ≡ Some child) → StepsDown n S t0 d low high key p child (inner p f)
  step_down_at child few are between told =
      let owner = owner_of n (over t0 S) (d - 1) low high (free_over t0 S) key f is.2 sound.apart.1 (λ q own. sound.used q (inr own)) between in
      let at = owner.at in
      let c = at.child in
      let its_page = (sound.below (page_of c) (inr (at.owned (page_of c) (owns_page c)))).1 in
      let same : child ≡ page_of c = named (floor key (links f)) (page_of c) child at.floor_is (omega arith) (told (record { level = d; entries = links f }) is.1) in
      let node = node_of (over t0 S) (d - 1) at.its_low at.its_high c at.stands in
      let can : CanRemove n (over t0 S) (free_over t0 S) (d - 1) key child = record {
        tree = c;
        low = at.its_low;
        high = at.its_high;
        tree_is = at.stands;
        page_is = sym same;
        sound = search (rules, at.apart sound.apart.1);
        free_are = are;
        between = at.between;
      } in
      let stays : (t1 : Txn) → IsRemoved n (over t0 S) (over t1 S) (d - 1) at.its_low at.its_high (free_over t0 S) (free_over t1 S) key c None → (over t1 S p ≡ over t0 S p) × (IsIn p (free_over t1 S) → ⊥) × AreFree n (free_over t1 S) =
      λ t1 done. search rules in
      record {
        can = can;
        level = search rules;
        node = record { level = d; entries = links f };
        node_is = is.1;
        some = some_links f;
        used = (sound.used p (inl refl), (sound.below p (inl refl)).0);
        absent = λ none. sym at.found ∙ none;
        kept = λ t1 done. let up = owner.back (over t1 S) (free_over t1 S) (Some done.0) done.1 in kept_as t1 up.0 up.1 up.2;
        off = stays;
        emptied = λ t1 t2 did done back elsewhere. let up = owner.back (over t1 S) (free_over t1 S) None done in put_back_as t1 t2 did up.0 up.1 up.2 back elsewhere (stays t1 done).1 (stays t1 done).2;
      }

step_at : (n : ℕ) (S : Image) (t0 : Txn) (d : ℕ) (low : List ℕ) (high : Option (List ℕ)) (key : List ℕ) (p child : ℕ) (t : Tree) → 0 < d → n ≤ 2 ^ 32 → IsTree (over t0 S) d low high t → page_of t ≡ p → IsSound n (free_over t0 S) t → AreFree n (free_over t0 S) → IsBetween low high key
    → ((node : Node) → IsNode (over t0 S p) node → option_map child_in (floor key node.entries) ≡ Some child) → StepsDown n S t0 d low high key p child t
step_at n S t0 d low high key p child (leaf q es) some few is same sound are between told = absurd (let none = is.0 in omega arith)
step_at n S t0 d low high key p child (inner q f) some few is same sound are between told = search (rules, step_down_at)

pub step_down : (n : ℕ) (S : Image) (t0 : Txn) (d : ℕ) (key : List ℕ) (p child : ℕ) (can : CanRemove n (over t0 S) (free_over t0 S) d key p) → 0 < d → n ≤ 2 ^ 32
    → ((node : Node) → IsNode (over t0 S p) node → option_map child_in (floor key node.entries) ≡ Some child) → StepsDown n S t0 d can.low can.high key p child can.tree
step_down n S t0 d key p child can some few told = step_at n S t0 d can.low can.high key p child can.tree some few can.tree_is can.page_is can.sound can.free_are can.between told

-- a leaf's node, a row less, was put back
pub row_done : (t0 t1 : Txn) (p : ℕ) (key : List ℕ) (es : List Entry) (i : ℕ) (node : Node) → node ≡ record { level = 0; entries = remove es i } → IsFound key es i → (did : Removed) → IsPutBack t0 t1 p node did → RowRemoves t0 t1 p key es did
row_done t0 t1 p key es i node same found Absent back = absurd back
row_done t0 t1 p key es i node same found Kept back = (i, found, subst (λ (n : Node). IsPutBack t0 t1 p n Kept) same back)
row_done t0 t1 p key es i node same found Emptied back = (i, found, subst (λ (n : Node). IsPutBack t0 t1 p n Emptied) same back)

pub as_get : (n : ℕ) (P : Image) (free : List ℕ) (d : ℕ) (key : List ℕ) (p : ℕ) (page : List ℕ) → CanRemove n P free d key p → page ≡ P p → CanGet n P d key page
as_get n P free d key p page can there = search rules

pub no_rows : (S : Image) (t : Txn) (d : ℕ) (key : List ℕ) (p : ℕ) (page : List ℕ) → CanRemove (txn_pages t) (over t S) (free_over t S) d key p → page ≡ over t S p → d ≡ 0 → TakenErr t p page NotAStore → ⊥
no_rows S t d key p page can there none why =
    let own : owns can.tree p = subst (owns can.tree) can.page_is (owns_page can.tree) in
    let l = leaf_there (txn_pages t) (over t S) (free_over t S) d key p can none in
    why S (rows can.tree) (subst (λ b. IsNode b (record { level = 0; entries = rows can.tree })) (sym there) l.0) l.1 (can.sound.below p own).0 can.free_are (can.sound.used p own)

pub both_ok : {T E : Type 0} (r : Result T E) (A B : T → Type 0) → IfOk r A → IfOk r B → IfOk r (λ x. A x × B x)
both_ok (Ok x) A B a b = (a, b)
both_ok (Err e) A B a b = tt

pub done_stays : (old new : Txn) (did : Removed) → IsDone did → StaysAt old new did
done_stays old new Absent done = absurd done
done_stays old new _ done = tt
