-- Leaves that follow one another under a node, and a leaf that was read with them.
use Rattle.std.{specs.{FinMap.entries, Option.option_map, Ordering.is_gt, Prelude.{Option, Some, None, Result, Ok, Err, OnOk}}, proofs.lemmas.Bool.Decides.leb_tells}
use Rattle.std.proofs.Common.{rules, ◌≡◌, ◌≤◌, ◌<◌, ◌+◌, ◌^◌, inl, inr, ⊎_elim, ℕ, zero, suc, List, [], ◌∷◌, ◌++◌, length, drop, get_or, slice_set, Bool, false, cond, refl, ap, sym, subst, ◌∙◌, arith, append_assoc}
use Rattle.{std.proofs.lemmas.List.{get_or-set_same, get_or-set_other, nil_from_length, Elements.All-nil}, page_btree_gets.{specs.Getting.{CanGet, IsLevel}, proofs.Tops.every_key}}
use Rattle.page_btree_gets.specs.Seeking.{bound_in, nearer, leaf_of, forest_leaf, bound_of, forest_bound, AreWays, HasWays, Follows, IsRead, IsNext, AreLeaves, IsFrom}
use Rattle.page_btree_gets.{specs.{claim.{Keys.{KeyMap, IsBetween}, Map.{Holds, IsBare, IsRooted}}, declared.{error.TreeError.TreeError, seeks.Leaf.Leaf}}, proofs.Booleans.either}
use Rattle.page_btree_gets.{specs.claim.Tree.{Tree, Forest, leaf, inner, one, more, page_of, first_key, links, rows, owns, forest_owns, IsTree, AreTrees}, proofs.Rising.tree_rises}
use Rattle.page_btree_node.specs.{Entries.child_in, Places.{floor, ceiling, entries_from}, Searching.RisesAfter, Walking.IsAhead, Ways.AreWays as NodeWays}
use Rattle.{page_btree_node.specs.claim.{Entries.{Entry, IsEntry}, Node.{Node, IsNode}, Places.{key_cmp, Rises}}, sector_device.specs.claim.Disk.Image}
use Rattle.page_btree_gets.proofs.{Descent.{ceiling_links, child_of, named, owns_page}, Rows.{key_before, less_is_from}, Seeking.{lower_of, starts, from_all, top_parted, top_leaf}}

-- ---- children
-- those that the node tells
pub ways_of : (prefix : List ℕ) (es : List Entry) (key : List ℕ) (child k : ℕ) (after : List ℕ) (bound : Option (List ℕ)) → k ≤ length after → NodeWays prefix es key child k after bound → AreWays k key es (child ∷ after) bound
ways_of prefix es key child zero after bound few told = (told.0, sym told.1)
ways_of prefix es key child (suc k) [] bound few told = absurd (omega arith)
ways_of prefix es key child (suc k) (b ∷ after) bound few told =
    let next = told.1 in
    (told.0, next.key, next.key_is, ways_of prefix es next.key b k after bound (omega arith) next.rest)

pub three_of : (l : List ℕ) → length l ≡ 3 → l ≡ get_or l 0 0 ∷ get_or l 1 0 ∷ get_or l 2 0 ∷ []
three_of (x ∷ y ∷ z ∷ []) three = refl
three_of _ three = absurd (omega arith)

-- ---- their pages
-- one more of them was read
pub page_more : (P : Image) (children : List ℕ) (pages : List (List ℕ)) (j : ℕ) (page : List ℕ) → j < length pages → ((i : ℕ) → i < j → get_or pages i [] ≡ P (get_or children i 0)) → page ≡ P (get_or children j 0) → (i : ℕ) → i < j + 1 → get_or (slice_set pages j page) i [] ≡ P (get_or children i 0)
page_more P children pages j page long before here i less = ⊎_elim
    (λ told.
    let same : i ≡ j = omega arith in
    subst (λ (n : ℕ). get_or (slice_set pages j page) n [] ≡ P (get_or children n 0)) (sym same) (get_or-set_same pages j page [] long ∙ here))
    (λ told. let under = told.1 in get_or-set_other pages j i page [] (λ same. omega arith) ∙ before i under)
    (leb_tells j i)

-- ---- under a node just above the leaves

-- a node's key that is the first above one
above_key : (P : Image) (d : ℕ) (low : List ℕ) (high : Option (List ℕ)) (key b : List ℕ) (f : Forest) → AreTrees P d low high f → ceiling key (links f) ≡ Some b → IsBetween key high b
above_key P d low high key b (one k t) is e = absurd (let clash : None ≡ Some b = e in cc)
above_key P d low high key b (more k t f) is e = elim (either (is_gt (key_cmp (first_key f) key))) [
  | inl above ↦
      let there : Some (first_key f) ≡ Some b = sym (ceiling_links k key t f ∙ ap (λ (c : Bool). cond c (Some (first_key f)) (ceiling key (links f))) above) ∙ e in
      let same : first_key f ≡ b = cc in
      subst (λ (x : List ℕ). IsBetween key high x) same (record { from = less_is_from key (first_key f) (key_before (first_key f) key above); under = is.1.under })
  | inr from ↦ above_key P d (first_key f) high key b f is.2 (sym (ceiling_links k key t f ∙ ap (λ (c : Bool). cond c (Some (first_key f)) (ceiling key (links f))) from) ∙ e)
]

between_more : (low key b : List ℕ) (high : Option (List ℕ)) → is_gt (key_cmp low key) ≡ false → IsBetween key high b → IsBetween low high b
between_more low key b high from is = record { from = lower_of low key b (key_cmp low key) refl from is.from; under = is.under }

-- the page that the node's links name for a key is the leaf's in whose range the key falls
record IsThere (n : ℕ) (P : Image) (key : List ℕ) (f : Forest) (child : ℕ) : Type 0 where
  node : IsNode (P child) (record { level = 0; entries = forest_leaf f key })
  rises : Rises (forest_leaf f key)
  some : 0 < length (forest_leaf f key)
  bound : (up : Option (List ℕ)) → forest_bound f up key ≡ nearer (ceiling key (links f)) up
  level : IsLevel n P 0 child

there_at : (n : ℕ) (P : Image) (low : List ℕ) (high : Option (List ℕ)) (key : List ℕ) (f : Forest) (child : ℕ) (t : Tree) → IsTree P 0 low high t → leaf_of t key ≡ forest_leaf f key → ((up : Option (List ℕ)) → bound_of t (nearer (ceiling key (links f)) up) key ≡ forest_bound f up key) → child ≡ page_of t → page_of t < n → IsThere n P key f child
there_at n P low high key f child (inner p g) is same bound page below = absurd (let none = is.0 in omega arith)
there_at n P low high key f child (leaf p es) is same bound page below =
    let at = subst (λ (q : ℕ). IsNode (P q) (record { level = 0; entries = es })) (sym page) is.1.node in
    let node = subst (λ (l : List Entry). IsNode (P child) (record { level = 0; entries = l })) same at in
    let rises = subst Rises same is.1.rises in
    let some = subst (λ (l : List Entry). 0 < length l) same is.1.some in
    search arith

there_for : (n : ℕ) (P : Image) (low : List ℕ) (high : Option (List ℕ)) (key : List ℕ) (f : Forest) (child : ℕ) → AreTrees P 0 low high f → ((q : ℕ) → forest_owns f q → q < n) → n ≤ 2 ^ 32 → IsBetween low high key → option_map child_in (floor key (links f)) ≡ Some child → IsThere n P key f child
there_for n P low high key f child is below few between told =
    let down = child_of P 0 low high key f is between in
    let its : page_of down.child < n = below (page_of down.child) (down.owned (page_of down.child) (owns_page down.child)) in
    there_at n P down.its_low down.its_high key f child down.child down.stands (down.leaf_is key down.between) (down.bound_is key down.between)
    (named (floor key (links f)) (page_of down.child) child down.floor_is (omega arith) told) its

first_way : (k : ℕ) (key : List ℕ) (es : List Entry) (child : ℕ) (children : List ℕ) (bound : Option (List ℕ)) → AreWays k key es (child ∷ children) bound → option_map child_in (floor key es) ≡ Some child
first_way zero key es child children bound ways = ways.0
first_way (suc k) key es child children bound ways = ways.0

-- so are those that follow it
ways_level : (n : ℕ) (P : Image) (low : List ℕ) (high : Option (List ℕ)) (f : Forest) → AreTrees P 0 low high f → ((q : ℕ) → forest_owns f q → q < n) → n ≤ 2 ^ 32 → (k : ℕ) (key : List ℕ) → IsBetween low high key → (children : List ℕ) (bound : Option (List ℕ)) → AreWays k key (links f) children bound → (j : ℕ) → j ≤ k → IsLevel n P 0 (get_or children j 0)
ways_level n P low high f is below few k key between [] bound ways j le = absurd ways
ways_level n P low high f is below few k key between (c ∷ children) bound ways zero le = (there_for n P low high key f c is below few between (first_way k key (links f) c children bound ways)).level
ways_level n P low high f is below few zero key between (c ∷ children) bound ways (suc j) le = absurd (omega arith)
ways_level n P low high f is below few (suc k) key between (c ∷ children) bound ways (suc j) le =
    let b = ways.1 in
    ways_level n P low high f is below few k b (between_more low key b high between.from (above_key P 0 low high key b f is ways.2)) children bound ways.3 j (omega arith)

ways_follow : (n : ℕ) (P : Image) (p : ℕ) (low : List ℕ) (high up : Option (List ℕ)) (f : Forest) → AreTrees P 0 low high f → ((q : ℕ) → forest_owns f q → q < n) → n ≤ 2 ^ 32 → (k : ℕ) (key : List ℕ) → IsBetween low high key → (children : List ℕ) (bound : Option (List ℕ)) → AreWays k key (links f) children bound → (pages : List (List ℕ)) → k < length pages → ((j : ℕ) → j ≤ k → get_or pages j [] ≡ P (get_or children j 0)) → Follows (inner p f) high up key k (drop 1 pages) (nearer bound up)
ways_follow n P p low high up f is below few zero key between (c ∷ children) bound ways pages long reads =
    ap (λ x. nearer x up) (sym ways.1) ∙ sym ((there_for n P low high key f c is below few between ways.0).bound up)
ways_follow n P p low high up f is below few (suc k) key between (c ∷ d ∷ children) bound ways (page ∷ next ∷ pages) long reads =
    let b = ways.1 in
    let higher = above_key P 0 low high key b f is ways.2 in
    let within = between_more low key b high between.from higher in
    let there = there_for n P low high b f d is below few within (first_way k b (links f) d children bound ways.3) in
    let read : next ≡ P d = reads 1 (omega arith) in (
      b,
      (there_for n P low high key f c is below few between ways.0).bound up ∙ ap (λ x. nearer x up) ways.2,
      higher,
      subst (λ (bytes : List ℕ). IsNode bytes (record { level = 0; entries = forest_leaf f b })) (sym read) there.node,
      there.rises,
      there.some,
      ways_follow n P p low high up f is below few k b within (d ∷ children) bound ways.3 (next ∷ pages) (omega arith) (λ j le. reads (suc j) (omega arith)),
    )
ways_follow n P p low high up f is below few (suc k) key between (c ∷ children) bound ways _ long reads = absurd (omega arith)
ways_follow n P p low high up f is below few _ key between _ bound ways _ long reads = search rules

-- the leaf that is in the first page, and those after it
pub record IsHeld (t : Tree) (high up : Option (List ℕ)) (key : List ℕ) (held : Leaf) (pages : List (List ℕ)) : Type 0 where
  pub node : IsNode (get_or {A = List ℕ} pages 0 []) (record { level = 0; entries = leaf_of t key })
  pub rises : Rises (leaf_of t key)
  pub follows : Follows t high up key held.more (drop 1 pages) (bound_in held)

-- of pages that a node's links name, and that were read
pub record AreHeld (n : ℕ) (P : Image) (t : Tree) (high up : Option (List ℕ)) (key : List ℕ) (held : Leaf) (children : List ℕ) : Type 0 where
  pub levels : (j : ℕ) → j ≤ held.more → IsLevel n P 0 (get_or children j 0)
  pub leaves : (pages : List (List ℕ)) → held.more < length pages → ((j : ℕ) → j ≤ held.more → get_or pages j [] ≡ P (get_or children j 0)) → IsHeld t high up key held pages

pub are_held : (n : ℕ) (P : Image) (key page : List ℕ) (can : CanGet n P 1 key page) → n ≤ 2 ^ 32 → (up : Option (List ℕ)) (held : Leaf) (children : List ℕ) → ((node : Node) → IsNode page node → RisesAfter node.entries → HasWays key node.entries up held children) → AreHeld n P can.tree can.high up key held children
are_held n P key page can few up held children told = step can.tree can.low can.high can.tree_is can.page_is can.below can.between
  where
    step : (t : Tree) (low : List ℕ) (high : Option (List ℕ)) → IsTree P 1 low high t → page ≡ P (page_of t) → ((q : ℕ) → owns t q → q < n) → IsBetween low high key → AreHeld n P t high up key held children
    step (leaf p es) low high is page_is below between = absurd (let none = is.0 in omega arith)
    step (inner p f) low high is page_is below between =
        let above : Node = record { level = 1; entries = links f } in
        let at = subst (λ bytes. IsNode bytes above) (sym page_is) is.1 in
        let has = told above at (tree_rises P 1 low high (inner p f) page is page_is (omega arith) above at) in
        let there = first_there held.more children has.bound has.ways in
        record {
          levels = ways_level n P low high f is.2 (λ q own. below q (inr own)) few held.more key between children has.bound has.ways;
          leaves = λ pages long reads. record {
            node = subst (λ (bytes : List ℕ). IsNode bytes (record { level = 0; entries = forest_leaf f key })) (sym (reads 0 (omega arith))) there.node;
            rises = there.rises;
            follows = subst (λ (b : Option (List ℕ)). Follows (inner p f) high up key held.more (drop 1 pages) b) (sym has.bound_is) (ways_follow n P p low high up f is.2 (λ q own. below q (inr own)) few held.more key between children has.bound has.ways pages long reads);
          };
        }
      where
        first_there : (k : ℕ) (children : List ℕ) (bound : Option (List ℕ)) → AreWays k key (links f) children bound → IsThere n P key f (get_or children 0 0)
        first_there k [] bound ways = absurd ways
        first_there k (c ∷ children) bound ways = there_for n P low high key f c is.2 (λ q own. below q (inr own)) few between (first_way k key (links f) c children bound ways)

-- ---- the place in the first page
pub read_held : (t : Tree) (high up : Option (List ℕ)) (key : List ℕ) (pages : List (List ℕ)) {T : Type 0} (r : Result T TreeError) (held now : Leaf) → IsHeld t high up key held pages → now.more ≡ held.more → bound_in now ≡ bound_in held → OnOk r (IsAhead (get_or {A = List ℕ} pages 0 []) now.at (entries_from key (leaf_of t key))) → OnOk r (now.left ≡ length (entries_from key (leaf_of t key))) → OnOk r (IsRead t high up key now pages)
read_held t high up key pages (Ok x) held now is same_more same_bound ahead left =
    search (subst (λ (k : ℕ). Follows t high up key k (drop 1 pages) (bound_in now)) (sym same_more) (subst (λ (b : Option (List ℕ)). Follows t high up key held.more (drop 1 pages) b) (sym same_bound) is.follows))
read_held t high up key pages (Err e) held now is same_more same_bound ahead left = tt

-- a leaf alone
pub leaf_alone : (t : Tree) (P : Image) (d : ℕ) (low : List ℕ) (high : Option (List ℕ)) (key : List ℕ) → d ≡ 0 → IsTree P d low high t → rows t ≡ leaf_of t key
leaf_alone (leaf p es) P d low high key none is = refl
leaf_alone (inner p f) P d low high key none is = absurd (let some = is.0 in omega arith)

pub held_alone : (n : ℕ) (P : Image) (d : ℕ) (key page : List ℕ) (can : CanGet n P d key page) → d ≡ 0 → (up : Option (List ℕ)) (held : Leaf) (pages : List (List ℕ)) → held.more ≡ 0 → bound_in held ≡ up → IsNode (get_or {A = List ℕ} pages 0 []) (record { level = 0; entries = rows can.tree }) → Rises (rows can.tree) → IsHeld can.tree can.high up key held pages
held_alone n P d key page can none up held pages alone bound at rises = step can.tree can.low can.high can.tree_is at rises
  where
    step : (t : Tree) (low : List ℕ) (high : Option (List ℕ)) → IsTree P d low high t → IsNode (get_or {A = List ℕ} pages 0 []) (record { level = 0; entries = rows t }) → Rises (rows t) → IsHeld t high up key held pages
    step (inner p f) low high is at rises = absurd (let some = is.0 in omega arith)
    step (leaf p es) low high is at rises = search rules

-- ---- up through the levels
follows_more : (u t : Tree) (low : List ℕ) (near high mid up : Option (List ℕ)) → ((x : List ℕ) → IsBetween low near x → IsBetween low high x) → ((x : List ℕ) → IsBetween low near x → leaf_of u x ≡ leaf_of t x) → ((x : List ℕ) → IsBetween low near x → bound_of u mid x ≡ bound_of t up x) → (k : ℕ) (key : List ℕ) → IsBetween low near key → (pages : List (List ℕ)) (bound : Option (List ℕ)) → Follows u near mid key k pages bound → Follows t high up key k pages bound
follows_more u t low near high mid up wider same same_bound zero key between pages bound is = is ∙ same_bound key between
follows_more u t low near high mid up wider same same_bound (suc k) key between [] bound is = is
follows_more u t low near high mid up wider same same_bound (suc k) key between (page ∷ pages) bound is =
    let b = is.0 in
    let within = between_more low key b near between.from is.2 in (
      b,
      sym (same_bound key between) ∙ is.1,
      record { from = is.2.from; under = (wider b within).under },
      subst (λ (es : List Entry). IsNode page (record { level = 0; entries = es })) (same b within) is.3,
      subst Rises (same b within) is.4,
      subst (λ (es : List Entry). 0 < length es) (same b within) is.5,
      follows_more u t low near high mid up wider same same_bound k b within pages bound is.6,
    )

pub read_more : (u t : Tree) (low its_low : List ℕ) (near high mid up : Option (List ℕ)) (key : List ℕ) (held : Leaf) (pages : List (List ℕ)) → ((x : List ℕ) → IsBetween its_low near x → IsBetween low high x) → ((x : List ℕ) → IsBetween its_low near x → leaf_of u x ≡ leaf_of t x) → ((x : List ℕ) → IsBetween its_low near x → bound_of u mid x ≡ bound_of t up x) → IsBetween its_low near key → IsRead u near mid key held pages → IsRead t high up key held pages
read_more u t low its_low near high mid up key held pages wider same same_bound between is = record {
  ahead = subst (λ (es : List Entry). IsAhead (get_or {A = List ℕ} pages 0 []) held.at (entries_from key es)) (same key between) is.ahead;
  left_is = is.left_is ∙ ap (λ (es : List Entry). length (entries_from key es)) (same key between);
  follows = follows_more u t its_low near high mid up (λ x within. record { from = within.from; under = (wider x within).under }) same same_bound held.more key between (drop 1 pages) (bound_in held) is.follows;
}

-- ---- from the root
-- the rows after a leaf: those of the leaves that follow it, and the others
record IsFolded (all after : List Entry) (k : ℕ) (pages : List (List ℕ)) (bound : Option (List ℕ)) : Type 0 where
  others : List Entry
  rest : List Entry
  others_are : AreLeaves k pages others
  after_is : after ≡ others ++ rest
  next : IsNext bound all rest

-- a leaf that begins at a bound has all its rows from there on
from_start : (n : ℕ) (P : Image) (root : ℕ) (free : List ℕ) (m : KeyMap) (r : IsRooted n P root free m) (key b : List ℕ) → bound_of r.tree None key ≡ Some b → entries_from b (leaf_of r.tree b) ≡ leaf_of r.tree b
from_start n P root free m r key b bound = elim (starts P r.level [] None key b r.tree r.stands (every_key key) bound) [
  | inl none ↦ cc
  | inr s ↦ from_all b (leaf_of r.tree b) s.all
]

folded : (n : ℕ) (P : Image) (root : ℕ) (free : List ℕ) (m : KeyMap) (r : IsRooted n P root free m) (high : Option (List ℕ)) (k : ℕ) (key : List ℕ) (pages : List (List ℕ)) (bound : Option (List ℕ)) (after : List Entry) → Follows r.tree high None key k pages bound → IsNext (bound_of r.tree None key) (entries m) after → IsFolded (entries m) after k pages bound
folded n P root free m r high zero key pages bound after is next =
    let then : IsNext bound (entries m) after = subst (λ (b : Option (List ℕ)). IsNext b (entries m) after) (sym is) next in
    record { others = []; rest = after; others_are = refl; after_is = refl; next = then }
folded n P root free m r high (suc k) key [] bound after is next = absurd is
folded n P root free m r high (suc k) key (page ∷ pages) bound after is next =
    let b = is.0 in
    let at = top_leaf n P root free m r b in
    let all = from_start n P root free m r key b is.1 in
    let here = leaf_of r.tree b in
    let then = folded n P root free m r high k b pages bound at.after is.6 at.next in
    let begins : after ≡ entries_from b (entries m) = subst (λ (c : Option (List ℕ)). IsNext c (entries m) after) is.1 next in
    record {
      others = here ++ then.others;
      rest = then.rest;
      others_are = (here, then.others, refl, is.3, is.4, is.5, then.others_are);
      after_is = begins ∙ at.rows_are ∙ ap (λ (l : List Entry). l ++ at.after) all ∙ ap (λ (l : List Entry). here ++ l) then.after_is ∙ sym (append_assoc here then.others then.rest);
      next = then.next;
    }

pub from_read : (n : ℕ) (P : Image) (root : ℕ) (free : List ℕ) (m : KeyMap) (r : IsRooted n P root free m) (key : List ℕ) (held : Leaf) (pages : List (List ℕ)) → IsRead r.tree None None key held pages → (held.left ≡ 0 → held.more ≡ 0 → bound_in held ≡ None) → IsFrom key (entries m) held pages
from_read n P root free m r key held pages is last =
    let at = top_leaf n P root free m r key in
    let here = entries_from key (leaf_of r.tree key) in
    let then = folded n P root free m r None held.more key (drop 1 pages) (bound_in held) at.after is.follows at.next in
    let rows_are : entries_from key (entries m) ≡ here ++ (then.others ++ then.rest) = at.rows_are ∙ ap (λ (l : List Entry). here ++ l) then.after_is in
    let some : held.left ≡ 0 → held.more ≡ 0 → then.rest ≡ [] = λ none alone. subst (λ (b : Option (List ℕ)). IsNext b (entries m) then.rest) (last none alone) then.next in
    search rules

-- where it was read alone, its bound is the leaf's
bound_alone : (t : Tree) (key : List ℕ) (held : Leaf) (pages : List (List ℕ)) → IsRead t None None key held pages → held.more ≡ 0 → bound_in held ≡ bound_of t None key
bound_alone t key held pages is alone = subst (λ (k : ℕ). Follows t None None key k (drop 1 pages) (bound_in held)) alone is.follows

pub from_after : (n : ℕ) (P : Image) (root : ℕ) (free : List ℕ) (m : KeyMap) (r : IsRooted n P root free m) (key b : List ℕ) (first held : Leaf) (before pages : List (List ℕ)) → IsRead r.tree None None key first before → first.left ≡ 0 → first.more ≡ 0 → bound_in first ≡ Some b → IsRead r.tree None None b held pages → 0 < held.left → IsFrom key (entries m) held pages
from_after n P root free m r key b first held before pages is none alone bound there some =
    let at = top_leaf n P root free m r key in
    let then = from_read n P root free m r b held pages there (λ nothing. absurd (omega arith)) in
    let ahead : entries_from key (leaf_of r.tree key) ≡ [] = nil_from_length (entries_from key (leaf_of r.tree key)) (sym is.left_is ∙ none) in
    let after : at.after ≡ entries_from b (entries m) = subst (λ (c : Option (List ℕ)). IsNext c (entries m) at.after) (sym (bound_alone r.tree key first before is alone) ∙ bound) at.next in
    let rows_are : entries_from key (entries m) ≡ then.here ++ (then.others ++ then.after) = at.rows_are ∙ ap (λ (l : List Entry). l ++ at.after) ahead ∙ after ∙ then.rows_are in
    search rules

-- a leaf that begins at a bound has a row
pub some_after : (n : ℕ) (P : Image) (root : ℕ) (free : List ℕ) (m : KeyMap) (r : IsRooted n P root free m) (key b : List ℕ) (first held : Leaf) (before pages : List (List ℕ)) → IsRead r.tree None None key first before → first.more ≡ 0 → bound_in first ≡ Some b → IsRead r.tree None None b held pages → 0 < held.left
some_after n P root free m r key b first held before pages is alone bound there =
    let all = from_start n P root free m r key b (sym (bound_alone r.tree key first before is alone) ∙ bound) in
    let long : length (entries_from b (leaf_of r.tree b)) ≡ length (leaf_of r.tree b) = ap (λ (l : List Entry). length l) all in
    let some = (top_parted n P root free m r b).some in
    omega arith

pub from_bare : (n root : ℕ) (free : List ℕ) (m : KeyMap) (key : List ℕ) (held : Leaf) (pages : List (List ℕ)) → IsBare n root free m → held.at ≡ 0 → held.left ≡ 0 → held.more ≡ 0 → bound_in held ≡ None → IsFrom key (entries m) held pages
from_bare n root free m key held pages bare at left alone bound =
    let ahead : IsAhead (get_or {A = List ℕ} pages 0 []) held.at [] = record { body = refl; entries = All-nil IsEntry; within = omega arith } in
    let others : AreLeaves held.more (drop 1 pages) [] = subst (λ (k : ℕ). AreLeaves k (drop 1 pages) []) (sym alone) refl in
    let next : IsNext (bound_in held) (entries m) [] = subst (λ (b : Option (List ℕ)). IsNext b (entries m) []) (sym bound) refl in
    search (ahead, others, next, ap (entries_from key) bare.none)

-- where nothing else is to be read
pub from_found : (n : ℕ) (P : Image) (root : ℕ) (free : List ℕ) (m : KeyMap) (key : List ℕ) (held : Leaf) (pages : List (List ℕ)) → Holds n P root free m → (root ≡ 0 → (held.at ≡ 0) × (held.left ≡ 0) × (held.more ≡ 0) × (bound_in held ≡ None)) → ((r : IsRooted n P root free m) → IsRead r.tree None None key held pages) → (held.left ≡ 0 → held.more ≡ 0 → bound_in held ≡ None) → IsFrom key (entries m) held pages
from_found n P root free m key held pages holds none read last = ⊎_elim
    (λ bare. let at = none bare.root_is in from_bare n root free m key held pages bare at.0 at.1 at.2 at.3)
    (λ r. from_read n P root free m r key held pages (read r) last)
    holds.held
