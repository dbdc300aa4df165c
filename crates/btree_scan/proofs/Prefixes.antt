-- Lemmas on the definitions of Prefixes.
use Rattle.std.specs.{Cmp.nat_cmp_is, FinMap.{find, is_sorted, Entries.{below_all, where_key, find-where_key, is_sorted-where_key}}, List.{starts_with, AllByRecursion}}
use Rattle.std.specs.{Ordering.{nat_cmp, is_gt, is_lt, ordering_then}, Prelude.{None, T}, declared.cmp.Ordering.{Ordering, TheVariants.{Less, Equal, Greater}}}
use Rattle.std.proofs.Common.{rules, ◌≡◌, ◌⊎◌, ◌<◌, ◌≤◌, inl, inr, ℕ, List, [], ◌∷◌, ◌++◌, length, length-append, Bool, true, false, cond, ◌&&◌, nat_eq, refl, sym, ap, subst, ◌∙◌, arith}
use Rattle.{std.proofs.lemmas.{Bool.{and_parts, and_right, eqb-true, Decides.nat_tests}, List.Elements.filter-append}, page_btree.specs.node.Places.{is_from, entries_from}}
use Rattle.{btree_scan.specs.Prefixes.{AllFrom, AllUnder, is_under, under}, page_btree.specs.node.claim.{Entries.Entry, Places.{key_cmp, Rises}}}
use Rattle.page_store.proofs.Chains.{both_ways as clash}
use Rattle.page_btree.proofs.gets.Rows.{all_both}
use Rattle.page_btree.proofs.gets.Booleans.{either, true_is}
use Rattle.page_btree.proofs.gets.Seeking.{from_all}
use Rattle.page_btree.proofs.node.Laws.{is_less, same_key, flip_greater}

-- ---- one key

-- a key isn't below its prefix
pub under_is_from : (prefix key : List ℕ) → starts_with nat_eq key prefix ≡ true → is_gt (key_cmp prefix key) ≡ false
under_is_from [] [] h = refl
under_is_from [] (x ∷ xs) h = refl
under_is_from (p ∷ ps) [] h = cc
under_is_from (p ∷ ps) (x ∷ xs) h =
    let same : p ≡ x = eqb-true p x (and_parts (nat_eq p x) (starts_with nat_eq xs ps) h).0 in
    let tied : nat_cmp p x ≡ Equal = sym (nat_cmp_is p x Equal same) in
    ap (λ (r : Ordering). is_gt (ordering_then r (key_cmp ps xs))) tied ∙ under_is_from ps xs (and_parts (nat_eq p x) (starts_with nat_eq xs ps) h).1

compared : (a b : ℕ) → (a < b) ⊎ ((a ≡ b) ⊎ (b < a))
compared a b = search (rules, either)

unlike : (a b : ℕ) → a < b → nat_eq a b ≡ false
unlike a b less = grind (arith, nat_tests)

like : (a b : ℕ) → a ≡ b → nat_eq a b ≡ true
like a b same = grind (arith, nat_tests)

-- where a key from the start on doesn't begin with it, no key above that does
pub none_above : (prefix x y : List ℕ) → is_gt (key_cmp prefix x) ≡ false → starts_with nat_eq x prefix ≡ false → key_cmp x y ≡ Less → starts_with nat_eq y prefix ≡ false
none_above [] x y from off less = off
none_above (p ∷ ps) [] y from off less = cc
none_above (p ∷ ps) (x ∷ xs) [] from off less = refl
none_above (p ∷ ps) (x ∷ xs) (y ∷ ys) from off less = elim (compared p x) [
  | inl below ↦ search (rules, compared)
  | inr (inl tied) ↦ elim (compared x y) [
    | inl rises ↦ ap (λ (b : Bool). b && starts_with nat_eq ys ps) (unlike p y (omega arith))
    | inr (inl same) ↦ and_right (nat_eq p y) (starts_with nat_eq ys ps) (none_above ps xs ys
        (sym (ap (λ (r : Ordering). is_gt (ordering_then r (key_cmp ps xs))) (sym (nat_cmp_is p x Equal tied))) ∙ from)
        (sym (ap (λ (b : Bool). b && starts_with nat_eq xs ps) (like p x tied)) ∙ off)
        (sym (ap (λ (r : Ordering). ordering_then r (key_cmp xs ys)) (sym (nat_cmp_is x y Equal same))) ∙ less))
    | inr (inr falls) ↦ (let clash : Greater ≡ Less = sym (ap (λ (r : Ordering). ordering_then r (key_cmp xs ys)) (sym (nat_cmp_is x y Greater falls))) ∙ less in cc)
  ]
  | inr (inr above) ↦ (let clash : true ≡ false = sym (ap (λ (r : Ordering). is_gt (ordering_then r (key_cmp ps xs))) (sym (nat_cmp_is p x Greater above))) ∙ from in cc)
]

-- ---- rows
-- a row that is under the prefix isn't below it
pub under_from : (prefix : List ℕ) (es : List Entry) → under prefix (entries_from prefix es) ≡ under prefix es
under_from prefix [] = refl
under_from prefix (e ∷ es) = elim (either (is_gt (key_cmp prefix e.0))) [
  | inl above ↦
      let off : is_under prefix e ≡ false = search (rules, under_is_from) in
      ap (λ (b : Bool). under prefix (cond (cond b false true) (e ∷ entries_from prefix es) (entries_from prefix es))) above
      ∙ under_from prefix es
      ∙ sym (ap (λ (b : Bool). cond b (e ∷ under prefix es) (under prefix es)) off)
  | inr from ↦
      ap (λ (b : Bool). under prefix (cond (cond b false true) (e ∷ entries_from prefix es) (entries_from prefix es))) from
      ∙ ap (λ (l : List Entry). cond (is_under prefix e) (e ∷ l) l) (under_from prefix es)
]

-- after a row from the start on that isn't under it, none is
pub none_under : (prefix : List ℕ) (e : Entry) (es : List Entry) → is_gt (key_cmp prefix e.0) ≡ false → is_under prefix e ≡ false → below_all key_cmp e.0 es ≡ true → under prefix es ≡ []
none_under prefix e [] from off below = refl
none_under prefix e (f ∷ es) from off below =
    let less : key_cmp e.0 f.0 ≡ Less = is_less (key_cmp e.0 f.0) (and_parts (is_lt (key_cmp e.0 f.0)) (below_all key_cmp e.0 es) below).0 in
    ap (λ (b : Bool). cond b (f ∷ under prefix es) (under prefix es)) (none_above prefix e.0 f.0 from off less)
    ∙ none_under prefix e es from off (and_parts (is_lt (key_cmp e.0 f.0)) (below_all key_cmp e.0 es) below).1

-- rows whose keys pass a test rise
rises_where : (test : List ℕ → Bool) (es : List Entry) → Rises es → Rises (where_key key_cmp test es)
rises_where test es h = true_is _ (is_sorted-where_key key_cmp test es (subst T (sym h) tt))

pub rises_from_key : (key : List ℕ) (es : List Entry) → Rises es → Rises (entries_from key es)
rises_from_key key es h = rises_where (λ k. cond (is_gt (key_cmp key k)) false true) es h

pub under_rises : (prefix : List ℕ) (es : List Entry) → Rises es → Rises (under prefix es)
under_rises prefix es h = rises_where (λ k. starts_with nat_eq k prefix) es h

from_where : (key : List ℕ) (e : Entry) (l : List Entry) (b : Bool) → is_gt (key_cmp key e.0) ≡ b → AllFrom key l → AllFrom key (cond (cond b false true) (e ∷ l) l)
from_where key e l true is all = all
from_where key e l false is all = (is, all)

pub all_from_key : (key : List ℕ) (es : List Entry) → AllFrom key (entries_from key es)
all_from_key key [] = tt
all_from_key key (e ∷ es) = from_where key e (entries_from key es) (is_gt (key_cmp key e.0)) refl (all_from_key key es)

pub head_rises : (e : Entry) (es : List Entry) → Rises (e ∷ es) → (below_all key_cmp e.0 es ≡ true) × Rises es
head_rises e es = and_parts (below_all key_cmp e.0 es) (is_sorted key_cmp es)

-- a key under the prefix is found among the rows under it
pub find_under : (prefix key : List ℕ) (es : List Entry) → starts_with nat_eq key prefix ≡ true → find key_cmp key (under prefix es) ≡ find key_cmp key es
find_under prefix key es on =
    find-where_key key_cmp (λ k. starts_with nat_eq k prefix) key (λ k tied. ap (λ x. starts_with nat_eq x prefix) (sym (same_key key k tied))) es
    ∙ ap (λ (b : Bool). cond b (find key_cmp key es) None) on

-- none of these is from a key on
abbrev AllBelow : List ℕ → List Entry → Type 0
AllBelow key es = AllByRecursion (λ e. is_gt (key_cmp key e.0) ≡ true) es

-- a key from the start on, below one that begins with it, begins with it
pub between_under : (prefix x bound : List ℕ) → is_gt (key_cmp prefix x) ≡ false → is_gt (key_cmp bound x) ≡ true → starts_with nat_eq bound prefix ≡ true → starts_with nat_eq x prefix ≡ true
between_under prefix x bound from above on = search (rules, either, nat_eq, clash, none_above, flip_greater)

pub all_between : (prefix bound : List ℕ) (es : List Entry) → AllFrom prefix es → AllBelow bound es → starts_with nat_eq bound prefix ≡ true → AllUnder prefix es
all_between prefix bound es from below on =
    all_both (λ e. is_gt (key_cmp prefix e.0) ≡ false) (λ e. is_gt (key_cmp bound e.0) ≡ true) (λ e. is_under prefix e ≡ true) (λ e after before. between_under prefix e.0 bound after before on) es from below

fewer_from : (bound key : List ℕ) (es : List Entry) → length (entries_from bound (entries_from key es)) ≤ length (entries_from bound es)
fewer_from bound key [] = omega arith
fewer_from bound key (e ∷ es) = let rest = fewer_from bound key es in search rules

none_from : (bound : List ℕ) (es : List Entry) → length (entries_from bound es) ≡ 0 → AllBelow bound es
none_from bound [] none = tt
none_from bound (e ∷ es) none = by (is_gt (key_cmp bound e.0)) refl none (λ rest. none_from bound es rest)
  where
    by : (b : Bool) → is_gt (key_cmp bound e.0) ≡ b → length (cond (cond b false true) (e ∷ entries_from bound es) (entries_from bound es)) ≡ 0 → (length (entries_from bound es) ≡ 0 → AllBelow bound es) → AllBelow bound (e ∷ es)
    by true is none more = (is, more none)
    by false is none more = absurd (omega arith)

-- of the rows from a key on those before the rows from a bound on are below that
pub below_bound : (bound key : List ℕ) (all here after : List Entry) → entries_from key all ≡ here ++ after → after ≡ entries_from bound all → AllBelow bound here
below_bound bound key all here after parts rest =
    let few = fewer_from bound key all in
    let split : entries_from bound (entries_from key all) ≡ entries_from bound here ++ entries_from bound after = ap (entries_from bound) parts ∙ filter-append (is_from bound) here after in
    let same : entries_from bound after ≡ after = ap (entries_from bound) rest ∙ from_all bound (entries_from bound all) (all_from_key bound all) ∙ sym rest in
    let sum = length-append (entries_from bound here) (entries_from bound after) in
    let a : length (entries_from bound (entries_from key all)) ≡ length (entries_from bound here ++ entries_from bound after) = ap (λ (l : List Entry). length l) split in
    let b : length (entries_from bound after) ≡ length after = ap (λ (l : List Entry). length l) same in
    let c : length after ≡ length (entries_from bound all) = ap (λ (l : List Entry). length l) rest in
    none_from bound here (omega arith)
