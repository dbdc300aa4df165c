-- A leaf was written, whole or cut, with a row put.
use Rattle.{std.specs.{FinMap.{find, put}, Ordering.is_gt, Prelude.{Option, Some, None, is_some}, declared.cmp.Ordering.TheVariants.Less}, page_btree_gets.specs.claim.Map.IsSound}
use Rattle.{std.proofs.Common.{rules, ◌≡◌, ◌<◌, ◌++◌, inl, ℕ, List, [], ◌∷◌, length, Bool, false, refl, sym, ap, subst, ◌∙◌, arith}, page_btree_gets.specs.node.Entries.key_at}
use Rattle.page_btree_gets.specs.{claim.{Keys.{IsBetween, Parts}, Tree.{Tree, leaf, inner, one, more, IsLeaf}}, node.claim.{Entries.Entry, Node.{Node, IsNode}}}
use Rattle.{page_btree_gets.specs.node.claim.Places.{key_cmp, Rises}, page_btree_puts.specs.Putting.{IsTaken, IsWhole, IsCut, IsWritten, IsRaised, CanPut}}
use Rattle.{page_store.specs.claim.Chain.{IsIn, AreFree}, sector_device.specs.claim.Disk.Image, page_btree_gets.proofs.Within.AreBetween}
use Rattle.page_btree_gets.proofs.Rows.{all_both, all_prefix, all_rest, from_then, rises_put, rises_prefix, rises_rest, rises_under, rises_from, all_put, some_put}

-- rows between bounds, parted at the first of the upper ones
pub record ArePartsOf (low : List ℕ) (high : Option (List ℕ)) (lower : List Entry) (y : Entry) (ys : List Entry) : Type 0 where
  pub below : AreBetween low (Some y.0) lower
  pub parts : Parts low high y.0
  pub above : AreBetween y.0 high (y ∷ ys)

part_rows : (low : List ℕ) (high : Option (List ℕ)) (lower : List Entry) (y : Entry) (ys : List Entry) → 0 < length lower → Rises (lower ++ y ∷ ys) → AreBetween low high (lower ++ y ∷ ys) → ArePartsOf low high lower y ys
part_rows low high [] y ys some rises within = absurd (omega arith)
part_rows low high (x ∷ xs) y ys some rises within =
    let under = rises_under (x ∷ xs) y ys rises in
    let after = all_rest (λ e. IsBetween low high e.0) (x ∷ xs) (y ∷ ys) within in
    record {
      below = all_both (λ e. IsBetween low high e.0) (λ e. key_cmp e.0 y.0 ≡ Less) (λ e. IsBetween low (Some y.0) e.0) (λ e b less. record { from = b.from; under = less })
          (x ∷ xs) (all_prefix (λ e. IsBetween low high e.0) (x ∷ xs) (y ∷ ys) within) under;
      parts = record { above = from_then low x.0 y.0 _ refl within.0.from under.0; under = after.0.under };
      above = all_both (λ e. IsBetween low high e.0) (λ e. is_gt (key_cmp y.0 e.0) ≡ false) (λ e. IsBetween y.0 high e.0) (λ e b from. record { from = from; under = b.under })
          (y ∷ ys) after (rises_from y ys (rises_rest (x ∷ xs) (y ∷ ys) rises));
    }

module _ (P Q : Image) (n : ℕ) (low : List ℕ) (high : Option (List ℕ)) (free left : List ℕ) (key value : List ℕ) (k : List ℕ) (p : ℕ) (es : List Entry) (is : IsLeaf P low high p es) (sound : IsSound n free (leaf p es)) (free_are : AreFree n free) (between : IsBetween low high key) where
  leaf_whole : (had : Bool) (upper : Node) → had ≡ is_some (find key_cmp key es) → IsWhole P Q free left p (record { level = 0; entries = put key_cmp key value es }) → IsRaised P Q 0 low high free left key value had k p (leaf p es) None upper
  leaf_whole had upper had_is w =
      let e : length left ≡ length free = ap length w.none in
      record {
        trees = one k (leaf p (put key_cmp key value es));
        is_put = search (arith, rises_put key value es is.rises, all_put (IsBetween low high) key value es between is.within, some_put key value es);
        shape = (leaf p (put key_cmp key value es), refl, refl);
      }

  leaf_cut : (had : Bool) (q : ℕ) (upper : Node) (entries : List Entry) → upper.entries ≡ entries → had ≡ is_some (find key_cmp key es) → IsCut P Q free left p q (record { level = 0; entries = put key_cmp key value es }) upper → IsRaised P Q 0 low high free left key value had k p (leaf p es) (Some q) upper
  leaf_cut had q upper [] entries had_is w = absurd (let n : length upper.entries ≡ 0 = ap length entries in let some = w.some.1 in omega arith)
  leaf_cut had q upper (y ∷ ys) entries had_is w =
      let both : w.lower ++ (y ∷ ys) ≡ put key_cmp key value es = ap (λ l. w.lower ++ l) (sym entries) ∙ w.both in
      let rises : Rises (w.lower ++ (y ∷ ys)) = subst Rises (sym both) (rises_put key value es is.rises) in
      let parts = part_rows low high w.lower y ys w.some.0 rises (subst (AreBetween low high) (sym both) (all_put (IsBetween low high) key value es between is.within)) in
      let node : upper ≡ record { level = 0; entries = y ∷ ys } = λ i. record { level = w.level i; entries = entries i } in
      let taken : IsTaken free left q = (subst (IsIn q) (sym w.taken) (inl refl), (subst (AreFree n) w.taken free_are).2) in
      record {
        trees = more k (leaf p w.lower) (one y.0 (leaf q (y ∷ ys)));
        is_put = search (rules, rises_prefix, rises_rest);
        shape = (leaf p w.lower, leaf q (y ∷ ys), ap (λ b. more k (leaf p w.lower) (one b (leaf q (y ∷ ys)))) (ap (λ l. key_at l 0) (sym entries)), refl, refl);
      }

  pub raise_leaf : (had : Bool) (right : Option ℕ) (upper : Node) → had ≡ is_some (find key_cmp key es) → IsWritten P Q free left p right (record { level = 0; entries = put key_cmp key value es }) upper → IsRaised P Q 0 low high free left key value had k p (leaf p es) right upper
  raise_leaf had None upper had_is w = leaf_whole had upper had_is w
  raise_leaf had (Some q) upper had_is w = leaf_cut had q upper upper.entries refl had_is w

-- what a call for a leaf at a page knows
module _ (n : ℕ) (P : Image) (low : List ℕ) (high : Option (List ℕ)) (free : List ℕ) (page : ℕ) (bytes key : List ℕ) where
  -- its rows
  pub leaf_here : (d : ℕ) (t : Tree) → d ≡ 0 → CanPut n P d low high free page bytes key t → (es : List Entry) × (t ≡ leaf page es) × IsLeaf P low high page es × IsNode bytes (record { level = 0; entries = es }) × IsSound n free (leaf page es)
  leaf_here d (leaf p es) zero_is can = search rules
  leaf_here d (inner p f) zero_is can = absurd (let some = can.stands.tree_is.0 in omega arith)

  module _ (d : ℕ) (t : Tree) (zero_is : d ≡ 0) (can : CanPut n P d low high free page bytes key t) where
    abbrev pub leaf_rows : List Entry
    leaf_rows = (leaf_here d t zero_is can).0

    pub leaf_node : IsNode bytes (record { level = 0; entries = leaf_rows })
    leaf_node = (leaf_here d t zero_is can).3

    pub leaf_rises : Rises leaf_rows
    leaf_rises = (leaf_here d t zero_is can).2.rises

    pub leaf_off : IsIn page free → ⊥
    leaf_off = (leaf_here d t zero_is can).4.used page refl

    pub leaf_raised : (Q : Image) (left value : List ℕ) (had : Bool) (right : Option ℕ) (upper : Node) → (had ≡ is_some (find key_cmp key leaf_rows)) × IsWritten P Q free left page right (record { level = 0; entries = put key_cmp key value leaf_rows }) upper → (k : List ℕ) → IsRaised P Q d low high free left key value had k page t right upper
    leaf_raised Q left value had right upper w k = let h = leaf_here d t zero_is can in search (rules, raise_leaf)
