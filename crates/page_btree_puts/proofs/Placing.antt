-- A row found or put among a leaf's.
use Rattle.{std.specs.{FinMap.{find, put}, Prelude.{Some, is_some}}, page_btree_gets.specs.node.{Entries.{key_at, value_at}, Places.{IsFound, IsGap}}}
use Rattle.std.proofs.Common.{rules, ◌≡◌, ◌<◌, ℕ, zero, suc, List, [], ◌∷◌, length, set, insert, slice_set, true, false, sym, ap, subst, ◌∙◌, arith}
use Rattle.page_btree_gets.specs.node.claim.{Entries.{Entry, size_of}, Node.{Node, IsNode, Fits}, Places.{key_cmp, Rises}}
use Rattle.page_btree_gets.proofs.node.Laws.{node_unique, found_put, gap_put, found_find, gap_find}

some_is : (x y : List ℕ) → Some x ≡ Some y → x ≡ y
some_is x y e = search rules

-- a value of the same length takes the room of the one before
size_same : (es : List Entry) (i : ℕ) (value : List ℕ) → i < length es → length (value_at es i) ≡ length value → size_of (set es i (key_at es i, value)) ≡ size_of es
size_same [] i value within same = absurd (omega arith)
size_same (e ∷ es) zero value within same = omega arith
size_same (e ∷ es) (suc i) value within same = let rest = size_same es i value (omega arith) same in omega arith

module _ (bytes : List ℕ) (node new : Node) (es : List Entry) (i : ℕ) (key value : List ℕ) (read : IsNode bytes node) (is : IsNode bytes (record { level = 0; entries = es })) (rises : Rises es) where
  same_node : node ≡ record { level = 0; entries = es }
  same_node = node_unique bytes node (record { level = 0; entries = es }) read is

  same_rows : node.entries ≡ es
  same_rows = ap (λ (n : Node). n.entries) same_node

  module _ (at : Rises node.entries → IsFound key node.entries i) (made : new ≡ record node { entries = slice_set node.entries i (key_at node.entries i, value) }) where
    found : IsFound key es i
    found = subst (λ l. IsFound key l i) same_rows (at (subst Rises (sym same_rows) rises))

    pub found_had : true ≡ is_some (find key_cmp key es)
    found_had = ap is_some (sym (found_find key es i found))

    set_is : new ≡ record { level = 0; entries = set es i (key_at es i, value) }
    set_is = made ∙ ap (λ (n : Node). record n { entries = set n.entries i (key_at n.entries i, value) }) same_node

    pub found_node : new ≡ record { level = 0; entries = put key_cmp key value es }
    found_node = set_is ∙ ap (λ (l : List Entry). record { level = 0; entries = l }) (sym (found_put key value es i found))

    pub found_fits : (held : List ℕ) → find key_cmp key es ≡ Some held → length held ≡ length value → Fits new
    found_fits held there same = search (rules, some_is, found_find, found, set_is, size_same)

  module _ (at : Rises node.entries → IsGap key node.entries i) where
    gap : IsGap key es i
    gap = subst (λ l. IsGap key l i) same_rows (at (subst Rises (sym same_rows) rises))

    pub gap_had : false ≡ is_some (find key_cmp key es)
    gap_had = ap is_some (sym (gap_find key es i gap))

    pub gap_missing : (held : List ℕ) → find key_cmp key es ≡ Some held → ⊥
    gap_missing held there = cc (gap_find key es i gap, there)

    pub gap_node : new ≡ record node { entries = insert node.entries i (key, value) } → new ≡ record { level = 0; entries = put key_cmp key value es }
    gap_node made = made ∙ ap (λ (n : Node). record n { entries = insert n.entries i (key, value) }) same_node ∙ ap (λ (l : List Entry). record { level = 0; entries = l }) (sym (gap_put key value es i gap))

-- a leaf of one row
pub first_node : (e : Entry) (cleared new : Node) → cleared ≡ record { level = 0; entries = [] } → new ≡ record cleared { entries = insert cleared.entries 0 e } → new ≡ record { level = 0; entries = e ∷ [] }
first_node e cleared new is made = made ∙ ap (λ (n : Node). record n { entries = insert n.entries 0 e }) is
