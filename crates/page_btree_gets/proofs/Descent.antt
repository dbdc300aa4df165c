-- The child that a key belongs to, for a look-up.
use Rattle.{std.specs.{FinMap.find, List.All, Option.option_map, Ordering.{is_gt, eq_by_cmp}, Prelude.{Option, Some, None}}, page_btree_gets.specs.claim.Keys.IsBetween}
use Rattle.std.proofs.Common.{rules, ◌≡◌, inl, inr, ℕ, suc, ◌-◌, ◌<◌, ◌≤◌, ◌^◌, List, [], ◌∷◌, length, Bool, true, false, cond, refl, sym, ap, subst, ◌∙◌, arith}
use Rattle.{page_btree_gets.specs.{Getting.{CanGet, IsChild, IsLevel, NoChild}, Seeking.{nearer, leaf_of, forest_leaf, bound_of, forest_bound}}, page_store.specs.claim.Chain.IsIn}
use Rattle.page_btree_gets.specs.claim.Tree.{Tree, Forest, leaf, inner, one, more, page_of, first_key, links, rows, forest_rows, owns, forest_owns, IsTree, AreTrees, IsApart, AreApart}
use Rattle.page_btree_node.specs.{Entries.{child_in, key_at}, Places.{floor, ceiling}, claim.{Entries.{Entry, IsEntry, child_bytes}, Node.{Node, IsNode}, Places.{key_cmp, Rises}}}
use Rattle.{sector_device.specs.claim.Disk.Image, page_btree_gets.proofs.{Booleans.either, Rising.tree_rises, Rows.{find_left, find_right, key_before}}}
use Rattle.{page_btree_gets.proofs.Within.{rows_after, rows_before, wider_high, wider_low}, page_btree_node.proofs.Laws.{child_written, flip_less}}

pub floor_links : (k key : List ℕ) (t : Tree) (f : Forest) → floor key (links (more k t f)) ≡ cond (is_gt (key_cmp (first_key f) key)) (Some (child_bytes (page_of t))) (floor key (links f))
floor_links k key t (one q u) = refl
floor_links k key t (more q u f) = refl

pub ceiling_links : (k key : List ℕ) (t : Tree) (f : Forest) → ceiling key (links (more k t f)) ≡ cond (is_gt (key_cmp (first_key f) key)) (Some (first_key f)) (ceiling key (links f))
ceiling_links k key t (one q u) = refl
ceiling_links k key t (more q u f) = refl

pub some_links : (f : Forest) → 0 < length (links f)
some_links (one k t) = omega arith
some_links (more k t f) = omega arith

pub key_of_links : (f : Forest) → key_at (links f) 0 ≡ first_key f
key_of_links (one k t) = refl
key_of_links (more k t f) = refl

-- none of the pages of children is free
abbrev pub AreUsed : Forest → List ℕ → Type 0
AreUsed f free = (q : ℕ) → forest_owns f q → IsIn q free → ⊥

-- the child, where it stands, and what it says of the key as all of them do
pub record ChildFor (P : Image) (d : ℕ) (low : List ℕ) (high : Option (List ℕ)) (key : List ℕ) (f : Forest) : Type 0 where
  pub child : Tree
  pub its_low : List ℕ
  pub its_high : Option (List ℕ)
  pub stands : IsTree P d its_low its_high child
  pub between : IsBetween its_low its_high key
  pub floor_is : floor key (links f) ≡ Some (child_bytes (page_of child))
  pub found : find key_cmp key (rows child) ≡ find key_cmp key (forest_rows f)
  pub wider : (x : List ℕ) → IsBetween its_low its_high x → IsBetween low high x
  pub leaf_is : (x : List ℕ) → IsBetween its_low its_high x → leaf_of child x ≡ forest_leaf f x
  pub bound_is : (x : List ℕ) → IsBetween its_low its_high x → (up : Option (List ℕ)) → bound_of child (nearer (ceiling key (links f)) up) x ≡ forest_bound f up x
  pub owned : (q : ℕ) → owns child q → forest_owns f q
  pub apart : AreApart f → IsApart child

-- the only one, the first of several, or one after it
module _ (P : Image) (d : ℕ) (low : List ℕ) (high : Option (List ℕ)) (key k : List ℕ) (t : Tree) where
  abbrev pub only_child : IsTree P d low high t → IsBetween low high key → ChildFor P d low high key (one k t)
  only_child is between = record {
    child = t;
    its_low = low;
    its_high = high;
    stands = is;
    between = between;
    floor_is = refl;
    found = refl;
    wider = λ x within. within;
    leaf_is = λ x within. refl;
    bound_is = λ x within up. refl;
    owned = λ q own. own;
    apart = λ are. are;
  }

  module _ (f : Forest) (trees : AreTrees P d low high (more k t f)) (between : IsBetween low high key) where
    abbrev pub first_child : is_gt (key_cmp (first_key f) key) ≡ true → ChildFor P d low high key (more k t f)
    first_child above = record {
      child = t;
      its_low = low;
      its_high = Some (first_key f);
      stands = trees.0;
      between = record { from = between.from; under = key_before (first_key f) key above };
      floor_is = floor_links k key t f ∙ ap (λ (b : Bool). cond b (Some (child_bytes (page_of t))) (floor key (links f))) above;
      found = sym (find_left key (rows t) (forest_rows f) (rows_before P d (first_key f) high key f trees.2 (key_before (first_key f) key above)));
      wider = wider_high low (first_key f) high trees.1.under;
      leaf_is = λ x within. sym (ap (λ (b : Bool). cond b (leaf_of t x) (forest_leaf f x)) (ap is_gt (flip_less x (first_key f) within.under)));
      bound_is = λ x within up. search (rules, ceiling_links, flip_less);
      owned = λ q own. inl own;
      apart = λ are. are.0;
    }

    abbrev pub later_child : is_gt (key_cmp (first_key f) key) ≡ false → ChildFor P d (first_key f) high key f → ChildFor P d low high key (more k t f)
    later_child from rest = record {
      child = rest.child;
      its_low = rest.its_low;
      its_high = rest.its_high;
      stands = rest.stands;
      between = rest.between;
      floor_is = floor_links k key t f ∙ ap (λ (b : Bool). cond b (Some (child_bytes (page_of t))) (floor key (links f))) from ∙ rest.floor_is;
      found = rest.found ∙ sym (find_right key (rows t) (forest_rows f) (rows_after P d low (first_key f) key t trees.0 from));
      wider = λ x within. wider_low low (first_key f) high trees.1.above x (rest.wider x within);
      leaf_is = λ x within. rest.leaf_is x within ∙ sym (ap (λ (b : Bool). cond b (leaf_of t x) (forest_leaf f x)) (rest.wider x within).from);
      bound_is = λ x within up. search (rules, ceiling_links);
      owned = λ q own. inr (rest.owned q own);
      apart = λ are. rest.apart are.2;
    }

pub child_of : (P : Image) (d : ℕ) (low : List ℕ) (high : Option (List ℕ)) (key : List ℕ) (f : Forest) → AreTrees P d low high f → IsBetween low high key → ChildFor P d low high key f
child_of P d low high key (one k t) trees between = only_child P d low high key k t trees between
child_of P d low high key (more k t f) trees between = elim (either (is_gt (key_cmp (first_key f) key))) [
  | inl above ↦ first_child P d low high key k t f trees between above
  | inr from ↦ later_child P d low high key k t f trees between from (child_of P d (first_key f) high key f trees.2 (record { from = from; under = between.under }))
]

pub owns_page : (t : Tree) → owns t (page_of t)
owns_page (leaf p es) = refl
owns_page (inner p f) = inl refl

-- the node of a tree's page
pub node_of : (P : Image) (d : ℕ) (low : List ℕ) (high : Option (List ℕ)) (t : Tree) → IsTree P d low high t → (node : Node) × IsNode (P (page_of t)) node × (node.level ≡ d)
node_of P d low high (leaf p es) is = (record { level = 0; entries = es }, is.1.node, sym is.0)
node_of P d low high (inner p f) is = (record { level = d; entries = links f }, is.1, refl)

-- at a leaf's page
pub at_leaf : (P : Image) (d : ℕ) (low : List ℕ) (high : Option (List ℕ)) (t : Tree) → d ≡ 0 → IsTree P d low high t → IsNode (P (page_of t)) (record { level = 0; entries = rows t }) × Rises (rows t)
at_leaf P d low high (leaf p es) none is = (is.1.node, is.1.rises)
at_leaf P d low high (inner p f) none is = absurd (let some = is.0 in omega arith)

pub leaf_page : (n : ℕ) (P : Image) (d : ℕ) (key page : List ℕ) (can : CanGet n P d key page) → d ≡ 0 → IsNode page (record { level = 0; entries = rows can.tree }) × Rises (rows can.tree)
leaf_page n P d key page can none = search (rules, at_leaf)

-- above it: the node's links name a page, at which the look-up goes on
pub record LeadsDown (n : ℕ) (P : Image) (d : ℕ) (key page : List ℕ) (t : Tree) (low : List ℕ) (high : Option (List ℕ)) (child : ℕ) : Type 0 where
  pub next : (bytes : List ℕ) → bytes ≡ P child → CanGet n P (d - 1) key bytes
  pub level : IsLevel n P (d - 1) child
  pub found : (bytes : List ℕ) (is : bytes ≡ P child) → find key_cmp key (rows (next bytes is).tree) ≡ find key_cmp key (rows t)
  pub node : Node
  pub node_is : IsNode page node
  pub wider : (bytes : List ℕ) (is : bytes ≡ P child) (x : List ℕ) → IsBetween (next bytes is).low (next bytes is).high x → IsBetween low high x
  pub leaf_is : (bytes : List ℕ) (is : bytes ≡ P child) (x : List ℕ) → IsBetween (next bytes is).low (next bytes is).high x → leaf_of (next bytes is).tree x ≡ leaf_of t x
  pub bound_is : (bytes : List ℕ) (is : bytes ≡ P child) (x : List ℕ) → IsBetween (next bytes is).low (next bytes is).high x → (up : Option (List ℕ)) → bound_of (next bytes is).tree (nearer (ceiling key node.entries) up) x ≡ bound_of t up x

pub named : (f : Option (List ℕ)) (page child : ℕ) → f ≡ Some (child_bytes page) → page < 2 ^ 32 → option_map child_in f ≡ Some child → child ≡ page
named f page child is few told = search (rules, child_written)

-- what `child_for` names, in a node above the leaves
pub goes_on : (n : ℕ) (P : Image) (d : ℕ) (key page : List ℕ) (can : CanGet n P d key page) (child : ℕ) → 0 < d → n ≤ 2 ^ 32 → IsChild page key child → LeadsDown n P d key page can.tree can.low can.high child
goes_on n P d key page can child some few told = step can.tree can.low can.high can.tree_is can.page_is can.below can.between
  where
    step : (t : Tree) (low : List ℕ) (high : Option (List ℕ)) → IsTree P d low high t → page ≡ P (page_of t) → ((q : ℕ) → owns t q → q < n) → IsBetween low high key → LeadsDown n P d key page t low high child
    step (leaf p es) low high is page_is below between = absurd (let none = is.0 in omega arith)
    step (inner p f) low high is page_is below between =
        let down = child_of P (d - 1) low high key f is.2 between in
        let above : Node = record { level = d; entries = links f } in
        let here = subst (λ bytes. IsNode bytes above) (sym page_is) is.1 in
        let its_page : page_of down.child < n = below (page_of down.child) (inr (down.owned (page_of down.child) (owns_page down.child))) in
        let same : child ≡ page_of down.child = named (floor key (links f)) (page_of down.child) child down.floor_is (omega arith) (told above here (tree_rises P d low high (inner p f) page is page_is some above here)) in
        let node = node_of P (d - 1) down.its_low down.its_high down.child down.stands in
        record {
          next = λ bytes there. record {
            tree = down.child;
            low = down.its_low;
            high = down.its_high;
            tree_is = down.stands;
            page_is = there ∙ ap P same;
            below = λ q own. below q (inr (down.owned q own));
            between = down.between;
          };
          level = search (arith, subst (λ (q : ℕ). IsNode (P q) node.0) (sym same) node.1);
          found = λ bytes there. down.found;
          node = above;
          node_is = here;
          wider = λ bytes there. down.wider;
          leaf_is = λ bytes there. down.leaf_is;
          bound_is = λ bytes there. down.bound_is;
        }

-- and it names one
pub some_child : (n : ℕ) (P : Image) (d : ℕ) (key page : List ℕ) → CanGet n P d key page → 0 < d → NoChild page key → ⊥
some_child n P d key page can some told = step can.tree can.low can.high can.tree_is can.page_is can.between
  where
    step : (t : Tree) (low : List ℕ) (high : Option (List ℕ)) → IsTree P d low high t → page ≡ P (page_of t) → IsBetween low high key → ⊥
    step (leaf p es) low high is page_is between = absurd (let none = is.0 in omega arith)
    step (inner p f) low high is page_is between =
        let down = child_of P (d - 1) low high key f is.2 between in
        let here = subst (λ bytes. IsNode bytes (record { level = d; entries = links f })) (sym page_is) is.1 in
        let none = told (record { level = d; entries = links f }) here (tree_rises P d low high (inner p f) page is page_is some (record { level = d; entries = links f }) here) some in
        let clash : Some (child_bytes (page_of down.child)) ≡ None = sym down.floor_is ∙ none in
        cc

-- a found value is short
pub short_value : (key : List ℕ) (es : List Entry) (value : List ℕ) → All IsEntry es → find key_cmp key es ≡ Some value → length value ≤ 1024
short_value key [] value all found = cc
short_value key (e ∷ es) value all found = elim (either (eq_by_cmp key_cmp key e.0)) [
  | inl tied ↦
      let there : Some e.1 ≡ Some value = sym (ap (λ (b : Bool). cond b (Some e.1) (find key_cmp key es)) tied) ∙ found in
      let same : e.1 ≡ value = cc in
      subst (λ (v : List ℕ). length v ≤ 1024) same (all 0 e (omega arith)).1
  | inr not ↦ short_value key es value (λ k d less. all (suc k) d (omega arith)) (sym (ap (λ (b : Bool). cond b (Some e.1) (find key_cmp key es)) not) ∙ found)
]
