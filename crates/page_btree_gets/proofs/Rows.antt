-- Rows in a row, and a key among them.
use Rattle.std.specs.{Cmp.Lexicographic.nat_list_cmp_total, FinMap.{find, put, is_sorted, Entries.{by_order, below_all, is_sorted-put}}, List.AllByRecursion}
use Rattle.std.specs.{Ordering.{is_gt, is_eq, is_lt, eq_by_cmp}, Prelude.{Option, Some, None, T}, declared.cmp.Ordering.{Ordering, TheVariants.{Less, Equal, Greater}}}
use Rattle.std.proofs.{Common.{rules, ◌≡◌, ◌<◌, ℕ, List, [], ◌∷◌, ◌++◌, length, Bool, true, false, cond, refl, sym, ap, subst, ◌∙◌, arith}, lemmas.Bool.{and_parts, and_from}}
use Rattle.{std.proofs.lemmas.Cmp.tied_itself, page_btree_gets.specs.claim.Keys.IsUnder, page_btree_node.specs.claim.{Entries.Entry, Places.{key_cmp, Rises}}}
use Rattle.{page_btree_gets.proofs.Booleans.true_is, page_btree_node.proofs.{Laws.{flip_less, flip_greater, less_trans, same_key, is_less}, Scanning.above_true}}

-- each key has this order to one
abbrev pub Each : Ordering → List ℕ → List Entry → Type 0
Each o k es = AllByRecursion (λ e. key_cmp k e.0 ≡ o) es

pub all_map : (P Q : Entry → Type 0) → ((e : Entry) → P e → Q e) → (es : List Entry) → AllByRecursion P es → AllByRecursion Q es
all_map P Q f [] h = tt
all_map P Q f (e ∷ es) h = (f e h.0, all_map P Q f es h.1)

pub all_both : (P Q R : Entry → Type 0) → ((e : Entry) → P e → Q e → R e) → (es : List Entry) → AllByRecursion P es → AllByRecursion Q es → AllByRecursion R es
all_both P Q R f [] h g = tt
all_both P Q R f (e ∷ es) h g = (f e h.0 g.0, all_both P Q R f es h.1 g.1)

pub all_append : (P : Entry → Type 0) (xs ys : List Entry) → AllByRecursion P xs → AllByRecursion P ys → AllByRecursion P (xs ++ ys)
all_append P [] ys h g = g
all_append P (x ∷ xs) ys h g = (h.0, all_append P xs ys h.1 g)

pub all_prefix : (P : Entry → Type 0) (xs ys : List Entry) → AllByRecursion P (xs ++ ys) → AllByRecursion P xs
all_prefix P [] ys h = tt
all_prefix P (x ∷ xs) ys h = (h.0, all_prefix P xs ys h.1)

pub all_rest : (P : Entry → Type 0) (xs ys : List Entry) → AllByRecursion P (xs ++ ys) → AllByRecursion P ys
all_rest P [] ys h = h
all_rest P (x ∷ xs) ys h = all_rest P xs ys h.1

-- ---- a put and a search before rows that are all above, and after rows that are all below
pub put_left : (k v : List ℕ) (xs ys : List Entry) → Each Less k ys → put key_cmp k v (xs ++ ys) ≡ put key_cmp k v xs ++ ys
put_left k v [] [] above = refl
put_left k v [] (y ∷ ys) above = ap (λ (o : Ordering). by_order o ((k, v) ∷ y ∷ ys) ((y.0, v) ∷ ys) (y ∷ put key_cmp k v ys)) above.0
put_left k v (x ∷ xs) ys above =
    ap (λ (l : List Entry). by_order (key_cmp k x.0) ((k, v) ∷ x ∷ xs ++ ys) ((x.0, v) ∷ xs ++ ys) (x ∷ l)) (put_left k v xs ys above)
    ∙ elim (key_cmp k x.0) as (λ o. by_order o ((k, v) ∷ x ∷ xs ++ ys) ((x.0, v) ∷ xs ++ ys) (x ∷ put key_cmp k v xs ++ ys) ≡ by_order o ((k, v) ∷ x ∷ xs) ((x.0, v) ∷ xs) (x ∷ put key_cmp k v xs) ++ ys) [ Less ↦ refl | Equal ↦ refl | Greater ↦ refl ]

pub put_right : (k v : List ℕ) (xs ys : List Entry) → Each Greater k xs → put key_cmp k v (xs ++ ys) ≡ xs ++ put key_cmp k v ys
put_right k v [] ys below = refl
put_right k v (x ∷ xs) ys below = ap (λ (o : Ordering). by_order o ((k, v) ∷ x ∷ xs ++ ys) ((x.0, v) ∷ xs ++ ys) (x ∷ put key_cmp k v (xs ++ ys))) below.0 ∙ ap (λ (l : List Entry). x ∷ l) (put_right k v xs ys below.1)

find_off : (k : List ℕ) (es : List Entry) → Each Less k es → find key_cmp k es ≡ None
find_off k [] above = refl
find_off k (e ∷ es) above = ap (λ (o : Ordering). cond (is_eq o) (Some e.1) (find key_cmp k es)) above.0 ∙ find_off k es above.1

pub find_left : (k : List ℕ) (xs ys : List Entry) → Each Less k ys → find key_cmp k (xs ++ ys) ≡ find key_cmp k xs
find_left k [] ys above = find_off k ys above
find_left k (x ∷ xs) ys above = ap (cond (eq_by_cmp key_cmp k x.0) (Some x.1)) (find_left k xs ys above)

pub find_right : (k : List ℕ) (xs ys : List Entry) → Each Greater k xs → find key_cmp k (xs ++ ys) ≡ find key_cmp k ys
find_right k [] ys below = refl
find_right k (x ∷ xs) ys below = ap (λ (o : Ordering). cond (is_eq o) (Some x.1) (find key_cmp k (xs ++ ys))) below.0 ∙ find_right k xs ys below.1

-- ---- keys between bounds
pub from_less : (x y z : List ℕ) (r : Ordering) → key_cmp y z ≡ r → key_cmp x y ≡ Less → is_gt r ≡ false → key_cmp x z ≡ Less
from_less x y z Less e less from = less_trans x y z less e
from_less x y z Equal e less from = ap (key_cmp x) (sym (same_key y z e)) ∙ less
from_less x y z Greater e less from = cc

-- x below y and y at most z
pub less_from : (x y z : List ℕ) → key_cmp x y ≡ Less → is_gt (key_cmp y z) ≡ false → key_cmp x z ≡ Less
less_from x y z less from = from_less x y z (key_cmp y z) refl less from

-- x at most y and y below z
pub from_then : (x y z : List ℕ) (r : Ordering) → key_cmp x y ≡ r → is_gt r ≡ false → key_cmp y z ≡ Less → key_cmp x z ≡ Less
from_then x y z Less e from less = less_trans x y z e less
from_then x y z Equal e from less = ap (λ k. key_cmp k z) (same_key x y e) ∙ less
from_then x y z Greater e from less = cc

pub wider_under : (x q : List ℕ) (high : Option (List ℕ)) → key_cmp x q ≡ Less → IsUnder q high → IsUnder x high
wider_under x q None less under = tt
wider_under x q (Some h) less under = less_trans x q h less under

pub less_is_from : (x y : List ℕ) → key_cmp x y ≡ Less → is_gt (key_cmp x y) ≡ false
less_is_from x y less = ap is_gt less

-- the key at a bound's upper side, where the bound isn't above it
pub key_after : (q key : List ℕ) → is_gt (key_cmp q key) ≡ false → (x : List ℕ) → key_cmp x q ≡ Less → key_cmp key x ≡ Greater
key_after q key from x less = flip_less x key (less_from x q key less from)

pub key_before : (q key : List ℕ) → is_gt (key_cmp q key) ≡ true → key_cmp key q ≡ Less
key_before q key above = flip_greater q key (above_true (key_cmp q key) above)

-- ---- rows that rise

is_true : (b : Bool) → b ≡ true → T b
is_true b e = subst T (sym e) tt

pub rises_put : (key value : List ℕ) (es : List Entry) → Rises es → Rises (put key_cmp key value es)
rises_put key value es rises = true_is _ (is_sorted-put key_cmp nat_list_cmp_total key value es (is_true _ rises))

-- a key is below the first of rows and the others where it is below each
pub less_each : (x : List ℕ) (es : List Entry) → below_all key_cmp x es ≡ true → Each Less x es
less_each x [] h = tt
less_each x (e ∷ es) h = (is_less (key_cmp x e.0) (and_parts (is_lt (key_cmp x e.0)) (below_all key_cmp x es) h).0, less_each x es (and_parts (is_lt (key_cmp x e.0)) (below_all key_cmp x es) h).1)

pub each_less : (x : List ℕ) (es : List Entry) → Each Less x es → below_all key_cmp x es ≡ true
each_less x [] h = refl
each_less x (e ∷ es) h = and_from (is_lt (key_cmp x e.0)) (below_all key_cmp x es) (ap is_lt h.0) (each_less x es h.1)

-- rows rise where the first is below the others, and these rise
pub rises_split : (e : Entry) (es : List Entry) → Rises (e ∷ es) → Each Less e.0 es × Rises es
rises_split e es h = let parts = and_parts (below_all key_cmp e.0 es) (is_sorted key_cmp es) h in (less_each e.0 es parts.0, parts.1)

pub rises_cons : (e : Entry) (es : List Entry) → Each Less e.0 es → Rises es → Rises (e ∷ es)
rises_cons e es below rises = and_from (below_all key_cmp e.0 es) (is_sorted key_cmp es) (each_less e.0 es below) rises

pub rises_prefix : (xs ys : List Entry) → Rises (xs ++ ys) → Rises xs
rises_prefix [] ys h = refl
rises_prefix (x ∷ xs) ys h = let r = rises_split x (xs ++ ys) h in rises_cons x xs (all_prefix (λ e. key_cmp x.0 e.0 ≡ Less) xs ys r.0) (rises_prefix xs ys r.1)

pub rises_rest : (xs ys : List Entry) → Rises (xs ++ ys) → Rises ys
rises_rest [] ys h = h
rises_rest (x ∷ xs) ys h = rises_rest xs ys (rises_split x (xs ++ ys) h).1

-- the rows before one are below it
pub rises_under : (xs : List Entry) (y : Entry) (ys : List Entry) → Rises (xs ++ y ∷ ys) → AllByRecursion (λ e. key_cmp e.0 y.0 ≡ Less) xs
rises_under [] y ys h = tt
rises_under (x ∷ xs) y ys h = let r = rises_split x (xs ++ y ∷ ys) h in ((all_rest (λ e. key_cmp x.0 e.0 ≡ Less) xs (y ∷ ys) r.0).0, rises_under xs y ys r.1)

-- and none of them is below the first
pub rises_from : (y : Entry) (ys : List Entry) → Rises (y ∷ ys) → AllByRecursion (λ e. is_gt (key_cmp y.0 e.0) ≡ false) (y ∷ ys)
rises_from y ys h = (ap is_gt (tied_itself nat_list_cmp_total y.0), all_map (λ e. key_cmp y.0 e.0 ≡ Less) (λ e. is_gt (key_cmp y.0 e.0) ≡ false) (λ e less. less_is_from y.0 e.0 less) ys (rises_split y ys h).0)

-- a put keeps rows between bounds, and leaves none empty
pub all_put : (P : List ℕ → Type 0) (key value : List ℕ) (es : List Entry) → P key → AllByRecursion (λ e. P e.0) es → AllByRecursion (λ e. P e.0) (put key_cmp key value es)
all_put P key value [] here h = (here, tt)
all_put P key value (e ∷ es) here h =
    elim (key_cmp key e.0) as (λ o. AllByRecursion (λ x. P x.0) (by_order o ((key, value) ∷ e ∷ es) ((e.0, value) ∷ es) (e ∷ put key_cmp key value es))) [
      | Less ↦ (here, h)
      | Equal ↦ h
      | Greater ↦ (h.0, all_put P key value es here h.1)
    ]

pub some_put : (key value : List ℕ) (es : List Entry) → 0 < length (put key_cmp key value es)
some_put key value [] = omega arith
some_put key value (e ∷ es) = search rules
