-- Laws of nodes and of places, for the layers above.
use Rattle.std.specs.{Cmp.Lexicographic.nat_list_cmp_total, FinMap.{is_sorted, find, put, slice_cmp-IsAntisymmetric, nat_cmp-IsAntisymmetric, Entries.below_all}}
use Rattle.std.specs.{Ordering.{is_gt, is_lt, is_eq, ordering_reverse, eq_by_cmp}, Prelude.{insert, Option, Some, None}, declared.cmp.Ordering.Ordering}
use Rattle.std.{specs.declared.cmp.Ordering.TheVariants.{Less, Equal, Greater}, proofs.lemmas.{Bool.{cases_eq, and_parts}, Cmp.{tied_itself, upto}, List.take_at}}
use Rattle.std.proofs.Common.{rules, ◌≡◌, ℕ, ◌+◌, ◌-◌, ◌^◌, ◌<◌, ◌≤◌, List, [], ◌∷◌, length, drop, get_or, set, replicate, true, false, cond, refl, sym, ap, subst, ◌∙◌, arith, zero, suc, ◌⊎◌, inl, inr}
use Rattle.{std.proofs.lemmas.Nat.from_be_bytes-to_be_bytes_4, page_btree_node.specs.{Entries.{key_at, value_at, child_in, read_from}, Node.bytes_of}}
use Rattle.page_btree_node.specs.{Places.{IsFound, IsGap, floor, floor_from, ceiling, ceiling_from, entries_from}, claim.Entries.{Entry, body_of, size_of, child_bytes}}
use Rattle.page_btree_node.{specs.claim.{Node.{Node, IsNode, IsShape, Fits, count_in}, Places.{key_cmp, Rises}}, proofs.EntryLists.{length-body, read_at}}

-- ---- nodes
-- the node of a page that stands for one
abbrev node_in : List ℕ → Node
node_in page = record { level = get_or page 0 0; entries = read_from (count_in page) (drop 4 page) }

-- a page stands for one node at most
pub node_is : (page : List ℕ) (node : Node) → IsNode page node → node_in page ≡ node
node_is page node is = search (rules, read_at)

pub node_unique : (page : List ℕ) (m n : Node) → IsNode page m → IsNode page n → m ≡ n
node_unique page m n one other = sym (node_is page m one) ∙ node_is page n other

-- and what is written for one stands for it
pub node_written : (node : Node) → IsShape node → Fits node → IsNode (bytes_of node) node
node_written node shape fits = record {
  level = refl;
  count = omega arith;
  body = take_at (body_of node.entries) (replicate (4092 - size_of node.entries) 0) (size_of node.entries) (length-body node.entries);
  shape = shape;
  fits = fits;
}

pub child_written : (page : ℕ) → page < 2 ^ 32 → child_in (child_bytes page) ≡ page
child_written page few = from_be_bytes-to_be_bytes_4 page few

-- ---- keys
pub flip_less : (x y : List ℕ) → key_cmp x y ≡ Less → key_cmp y x ≡ Greater
flip_less x y less = nat_list_cmp_total.antisymm y x ∙ ap ordering_reverse less

pub flip_greater : (x y : List ℕ) → key_cmp x y ≡ Greater → key_cmp y x ≡ Less
flip_greater x y greater = nat_list_cmp_total.antisymm y x ∙ ap ordering_reverse greater

pub less_trans : (x y z : List ℕ) → key_cmp x y ≡ Less → key_cmp y z ≡ Less → key_cmp x z ≡ Less
less_trans x y z one other = nat_list_cmp_total.trans x y z one other

pub same_key : (x y : List ℕ) → key_cmp x y ≡ Equal → x ≡ y
same_key x y tied = slice_cmp-IsAntisymmetric nat_cmp-IsAntisymmetric x y tied

pub is_less : (r : Ordering) → is_lt r ≡ true → r ≡ Less
is_less Less h = refl
is_less _ h = cc

below_at : (x : List ℕ) (es : List Entry) (j : ℕ) → below_all key_cmp x es ≡ true → j < length es → key_cmp x (key_at es j) ≡ Less
below_at x [] j h within = absurd (omega arith)
below_at x (e ∷ es) zero h within = is_less (key_cmp x e.0) (and_parts (is_lt (key_cmp x e.0)) (below_all key_cmp x es) h).0
below_at x (e ∷ es) (suc j) h within = below_at x es j (and_parts (is_lt (key_cmp x e.0)) (below_all key_cmp x es) h).1 (omega arith)

-- a key stands below each later one
pub rises_at : (es : List Entry) (i j : ℕ) → Rises es → i < j → j < length es → key_cmp (key_at es i) (key_at es j) ≡ Less
rises_at (e ∷ es) zero (suc j) rises less within = below_at e.0 es j (and_parts (below_all key_cmp e.0 es) (is_sorted key_cmp es) rises).0 (omega arith)
rises_at (e ∷ es) (suc i) (suc j) rises less within = rises_at es i j (and_parts (below_all key_cmp e.0 es) (is_sorted key_cmp es) rises).1 (omega arith) (omega arith)
rises_at _ i _ rises less within = absurd (omega arith)

lt_or_same : (j m : ℕ) → j ≤ m → (j < m) ⊎ (j ≡ m)
lt_or_same j m le = elim (cases_eq j m) [ inl same ↦ inr same | inr other ↦ inl (omega arith) ]

-- where one key is below a key, so are those before it
pub below_middle : (es : List Entry) (key : List ℕ) (m : ℕ) → Rises es → m < length es → key_cmp (key_at es m) key ≡ Less → (j : ℕ) → j ≤ m → key_cmp (key_at es j) key ≡ Less
below_middle es key m rises within less j le = elim (lt_or_same j m le) [
  | inl before ↦ less_trans (key_at es j) (key_at es m) key (rises_at es j m rises before within) less
  | inr same ↦ ap (λ k. key_cmp (key_at es k) key) same ∙ less
]

-- and where one is above, so are those after it
pub above_middle : (es : List Entry) (key : List ℕ) (m : ℕ) → Rises es → key_cmp (key_at es m) key ≡ Greater → (j : ℕ) → m ≤ j → j < length es → key_cmp (key_at es j) key ≡ Greater
above_middle es key m rises greater j le within = search (rules, lt_or_same, flip_less, less_trans, flip_greater, rises_at)

pub found_here : (es : List Entry) (key : List ℕ) (m : ℕ) → Rises es → m < length es → key_at es m ≡ key → IsFound key es m
found_here es key m rises within here = search (rules, rises_at, flip_less)

-- ---- what maps say
ties_not : (x key : List ℕ) (r : Ordering) → key_cmp x key ≡ r → is_eq (ordering_reverse r) ≡ false → eq_by_cmp key_cmp key x ≡ false
ties_not x key r is differs = ap is_eq (nat_list_cmp_total.antisymm key x ∙ ap ordering_reverse is) ∙ differs

pub find_at : (key : List ℕ) (es : List Entry) (i : ℕ) → i < length es → key_at es i ≡ key → ((j : ℕ) → j < i → key_cmp (key_at es j) key ≡ Less) → find key_cmp key es ≡ Some (value_at es i)
find_at key [] i within here below = absurd (omega arith)
find_at key (e ∷ es) zero within here below =
    let tied : eq_by_cmp key_cmp key e.0 ≡ true = ap (λ k. eq_by_cmp key_cmp key k) here ∙ ap is_eq (tied_itself nat_list_cmp_total key) in
    ap (λ b. cond b (Some e.1) (find key_cmp key es)) tied
find_at key (e ∷ es) (suc i) within here below =
    ap (λ b. cond b (Some e.1) (find key_cmp key es)) (ties_not e.0 key Less (below 0 (omega arith)) refl)
    ∙ find_at key es i (omega arith) here (λ j less. below (suc j) (omega arith))

pub find_none : (key : List ℕ) (es : List Entry) (i : ℕ) → ((j : ℕ) → j < i → j < length es → key_cmp (key_at es j) key ≡ Less) → ((j : ℕ) → i ≤ j → j < length es → key_cmp (key_at es j) key ≡ Greater) → find key_cmp key es ≡ None
find_none key [] i below above = refl
find_none key (e ∷ es) zero below above =
    ap (λ b. cond b (Some e.1) (find key_cmp key es)) (ties_not e.0 key Greater (above 0 (omega arith) (omega arith)) refl)
    ∙ find_none key es zero (λ j less within. absurd (omega arith)) (λ j le within. above (suc j) (omega arith) (omega arith))
find_none key (e ∷ es) (suc i) below above =
    ap (λ b. cond b (Some e.1) (find key_cmp key es)) (ties_not e.0 key Less (below 0 (omega arith) (omega arith)) refl)
    ∙ find_none key es i (λ j less within. below (suc j) (omega arith) (omega arith)) (λ j le within. above (suc j) (omega arith) (omega arith))

pub found_find : (key : List ℕ) (es : List Entry) (i : ℕ) → IsFound key es i → find key_cmp key es ≡ Some (value_at es i)
found_find key es i found = find_at key es i found.within found.here found.below

pub gap_find : (key : List ℕ) (es : List Entry) (i : ℕ) → IsGap key es i → find key_cmp key es ≡ None
gap_find key es i gap = find_none key es i (λ j less within. gap.below j less) gap.above

put_at : (key value : List ℕ) (es : List Entry) (i : ℕ) → i < length es → key_at es i ≡ key → ((j : ℕ) → j < i → key_cmp (key_at es j) key ≡ Less) → put key_cmp key value es ≡ set es i (key_at es i, value)
put_at key value [] i within here below = absurd (omega arith)
put_at key value (e ∷ es) zero within here below =
    let tied : key_cmp key e.0 ≡ Equal = ap (key_cmp key) here ∙ tied_itself nat_list_cmp_total key in
    rw tied refl
put_at key value (e ∷ es) (suc i) within here below =
    let above : key_cmp key e.0 ≡ Greater = flip_less e.0 key (below 0 (omega arith)) in
    rw above (ap (λ l. e ∷ l) (put_at key value es i (omega arith) here (λ j less. below (suc j) (omega arith))))

put_new : (key value : List ℕ) (es : List Entry) (i : ℕ) → i ≤ length es → ((j : ℕ) → j < i → key_cmp (key_at es j) key ≡ Less) → ((j : ℕ) → i ≤ j → j < length es → key_cmp (key_at es j) key ≡ Greater) → put key_cmp key value es ≡ insert es i (key, value)
put_new key value [] zero within below above = refl
put_new key value [] (suc i) within below above = absurd (omega arith)
put_new key value (e ∷ es) zero within below above =
    let less : key_cmp key e.0 ≡ Less = flip_greater e.0 key (above 0 (omega arith) (omega arith)) in
    rw less refl
put_new key value (e ∷ es) (suc i) within below above =
    let greater : key_cmp key e.0 ≡ Greater = flip_less e.0 key (below 0 (omega arith)) in
    rw greater (ap (λ l. e ∷ l) (put_new key value es i (omega arith) (λ j less. below (suc j) (omega arith)) (λ j le long. above (suc j) (omega arith) (omega arith))))

pub found_put : (key value : List ℕ) (es : List Entry) (i : ℕ) → IsFound key es i → put key_cmp key value es ≡ set es i (key_at es i, value)
found_put key value es i found = put_at key value es i found.within found.here found.below

pub gap_put : (key value : List ℕ) (es : List Entry) (i : ℕ) → IsGap key es i → put key_cmp key value es ≡ insert es i (key, value)
gap_put key value es i gap = put_new key value es i gap.within gap.below gap.above

-- ---- the last key that isn't above
-- the walk stops at the first key above
floor_first : (last : Option (List ℕ)) (key : List ℕ) (es : List Entry) → (0 < length es → is_gt (key_cmp (key_at es 0) key) ≡ true) → floor_from last key es ≡ last
floor_first last key [] above = refl
floor_first last key (e ∷ es) above = ap (λ b. cond b last (floor_from (Some e.1) key es)) (above (omega arith))

floor_from_stop : (last : Option (List ℕ)) (key : List ℕ) (es : List Entry) (i : ℕ) → i < length es → ((j : ℕ) → j ≤ i → is_gt (key_cmp (key_at es j) key) ≡ false) → (i + 1 < length es → is_gt (key_cmp (key_at es (i + 1)) key) ≡ true) → floor_from last key es ≡ Some (value_at es i)
floor_from_stop last key [] i within below above = absurd (omega arith)
floor_from_stop last key (e ∷ es) zero within below above =
    ap (λ b. cond b last (floor_from (Some e.1) key es)) (below 0 (omega arith))
    ∙ floor_first (Some e.1) key es (λ some. above (omega arith))
floor_from_stop last key (e ∷ es) (suc i) within below above =
    let e2 : suc i + 1 ≡ suc (i + 1) = omega arith in
    ap (λ b. cond b last (floor_from (Some e.1) key es)) (below 0 (omega arith))
    ∙ floor_from_stop (Some e.1) key es i (omega arith) (λ j le. below (suc j) (omega arith)) (λ long. subst (λ k. is_gt (key_cmp (key_at (e ∷ es) k) key) ≡ true) e2 (above (omega arith)))

pub floor_stop : (key : List ℕ) (es : List Entry) (i : ℕ) → i < length es → ((j : ℕ) → 0 < j → j ≤ i → is_gt (key_cmp (key_at es j) key) ≡ false) → (i + 1 < length es → is_gt (key_cmp (key_at es (i + 1)) key) ≡ true) → floor key es ≡ Some (value_at es i)
floor_stop key [] i within below above = absurd (omega arith)
floor_stop key (e ∷ es) zero within below above = floor_first (Some e.1) key es (λ some. above (omega arith))
floor_stop key (e ∷ es) (suc i) within below above =
    let e2 : suc i + 1 ≡ suc (i + 1) = omega arith in
    floor_from_stop (Some e.1) key es i (omega arith) (λ j le. below (suc j) (omega arith) (omega arith)) (λ long. subst (λ k. is_gt (key_cmp (key_at (e ∷ es) k) key) ≡ true) e2 (above (omega arith)))

-- ---- the first key that is above
ceiling_from_at : (key : List ℕ) (es : List Entry) (i : ℕ) → i < length es → ((j : ℕ) → j < i → is_gt (key_cmp (key_at es j) key) ≡ false) → is_gt (key_cmp (key_at es i) key) ≡ true → ceiling_from key es ≡ Some (key_at es i)
ceiling_from_at key [] i within below above = absurd (omega arith)
ceiling_from_at key (e ∷ es) zero within below above = ap (λ b. cond b (Some e.0) (ceiling_from key es)) above
ceiling_from_at key (e ∷ es) (suc i) within below above =
    ap (λ b. cond b (Some e.0) (ceiling_from key es)) (below 0 (omega arith))
    ∙ ceiling_from_at key es i (omega arith) (λ j less. below (suc j) (omega arith)) above

pub ceiling_at : (key : List ℕ) (es : List Entry) (i : ℕ) → 0 < i → i < length es → ((j : ℕ) → 0 < j → j < i → is_gt (key_cmp (key_at es j) key) ≡ false) → is_gt (key_cmp (key_at es i) key) ≡ true → ceiling key es ≡ Some (key_at es i)
ceiling_at key (e ∷ es) (suc i) some within below above = ceiling_from_at key es i (omega arith) (λ j less. below (suc j) (omega arith) (omega arith)) above
ceiling_at key _ _ some within below above = absurd (omega arith)

ceiling_from_none : (key : List ℕ) (es : List Entry) → ((j : ℕ) → j < length es → is_gt (key_cmp (key_at es j) key) ≡ false) → ceiling_from key es ≡ None
ceiling_from_none key [] below = refl
ceiling_from_none key (e ∷ es) below =
    ap (λ b. cond b (Some e.0) (ceiling_from key es)) (below 0 (omega arith))
    ∙ ceiling_from_none key es (λ j less. below (suc j) (omega arith))

pub ceiling_none : (key : List ℕ) (es : List Entry) → ((j : ℕ) → 0 < j → j < length es → is_gt (key_cmp (key_at es j) key) ≡ false) → ceiling key es ≡ None
ceiling_none key [] below = refl
ceiling_none key (e ∷ es) below = ceiling_from_none key es (λ j less. below (suc j) (omega arith) (omega arith))

-- ---- entries from a key on
pub is_lower : (x y z : List ℕ) (r : Ordering) → key_cmp x y ≡ r → is_gt r ≡ false → key_cmp y z ≡ Less → is_gt (key_cmp x z) ≡ false
is_lower x y z r is from less = upto nat_list_cmp_total x y z (ap is_gt is ∙ from) (ap is_gt less)

pub from_all_at : (key : List ℕ) (es : List Entry) → ((j : ℕ) → j < length es → is_gt (key_cmp key (key_at es j)) ≡ false) → entries_from key es ≡ es
from_all_at key [] from = refl
from_all_at key (e ∷ es) from =
    ap (λ b. cond (cond b false true) (e ∷ entries_from key es) (entries_from key es)) (from 0 (omega arith))
    ∙ ap (λ l. e ∷ l) (from_all_at key es (λ j less. from (suc j) (omega arith)))

pub entries_from_at : (key : List ℕ) (es : List Entry) (k : ℕ) → k ≤ length es → ((j : ℕ) → j < k → key_cmp (key_at es j) key ≡ Less) → ((j : ℕ) → k ≤ j → j < length es → is_gt (key_cmp key (key_at es j)) ≡ false) → entries_from key es ≡ drop k es
entries_from_at key [] zero within below from = refl
entries_from_at key [] (suc k) within below from = absurd (omega arith)
entries_from_at key (e ∷ es) zero within below from = from_all_at key (e ∷ es) (λ j less. from j (omega arith) less)
entries_from_at key (e ∷ es) (suc k) within below from =
    ap (λ r. cond (cond (is_gt r) false true) (e ∷ entries_from key es) (entries_from key es)) (flip_less e.0 key (below 0 (omega arith)))
    ∙ entries_from_at key es k (omega arith) (λ j less. below (suc j) (omega arith)) (λ j le less. from (suc j) (omega arith) (omega arith))

-- where one isn't below the key, none after it is
pub from_middle : (es : List Entry) (key : List ℕ) (k : ℕ) → Rises es → is_gt (key_cmp key (key_at es k)) ≡ false → (j : ℕ) → k ≤ j → j < length es → is_gt (key_cmp key (key_at es j)) ≡ false
from_middle es key k rises from j le within = search (rules, is_lower, rises_at)

pub not_greater : (r : Ordering) → is_lt r ≡ false → is_gt (ordering_reverse r) ≡ false
not_greater Less h = cc
not_greater _ h = refl

pub not_below : (x key : List ℕ) → is_lt (key_cmp x key) ≡ false → is_gt (key_cmp key x) ≡ false
not_below x key h = ap is_gt (nat_list_cmp_total.antisymm key x) ∙ not_greater (key_cmp x key) h
