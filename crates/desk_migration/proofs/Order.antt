-- The key that comes next after another one.
use Rattle.std.specs.{Cmp.{nat_cmp_is, Lexicographic.nat_list_cmp_total}, FinMap.{entries, get}, Ordering.{is_gt, nat_cmp, ordering_then}, declared.cmp.Ordering.Ordering}
use Rattle.{std.{specs.declared.cmp.Ordering.TheVariants.{Less, Equal, Greater}, proofs.lemmas.Cmp.tied_itself}, desk_migration.specs.{Parts.IsUnderParts, Walks.after}}
use Rattle.{std.proofs.Common.{rules, Some, ◌≡◌, ◌⊎◌, inl, inr, ◌<◌, ℕ, List, [], ◌∷◌, length, true, false, refl, sym, ap, ◌∙◌, arith}, desk_store_rows.specs.claim.Rows.KeyMap}
use Rattle.{desk_store_opening.specs.tidy.claim.Rows.IsFrom, page_btree.specs.node.{Places.entries_from, claim.{Entries.Entry, Places.key_cmp}}}
use Rattle.desk_store_rows.proofs.{Frames.same_key, OneGeography.value_is}
use Rattle.desk_store_opening.proofs.tidy.After.{few_from, fewer, from_tag}
use Rattle.desk_store_opening.proofs.tidy.FirstRows.{clash, first_is_from, first_least, first_none, first_there, from_trans, less_from}
use Rattle.page_btree.proofs.node.Laws.{flip_less}

-- ---- the key after one of parts is under them too
pub under_after : (key : List ℕ) → IsUnderParts key → IsUnderParts (after key)
under_after [] under = cc
under_after (a ∷ key) under = under

-- ---- the order of keys
ordered : (a b : List ℕ) (r : Ordering) → key_cmp a b ≡ r → is_gt r ≡ false → (key_cmp a b ≡ Less) ⊎ (a ≡ b)
ordered a b Less is not = inl is
ordered a b Equal is not = inr (same_key a b is)
ordered a b Greater is not = absurd (clash true refl not)

pub from_or_same : (a b : List ℕ) → IsFrom a b → (key_cmp a b ≡ Less) ⊎ (a ≡ b)
from_or_same a b from = ordered a b (key_cmp a b) refl from

then_not_above : (r s t : Ordering) → ordering_then r s ≡ Less → (s ≡ Less → is_gt t ≡ false) → is_gt (ordering_then r t) ≡ false
then_not_above Less s t is next = refl
then_not_above Equal s t is next = next is
then_not_above Greater s t is next = cc

-- a key above another one isn't below the one that comes next after that
pub from_after : (key other : List ℕ) → key_cmp key other ≡ Less → IsFrom (after key) other
from_after [] [] less = cc
from_after [] (b ∷ other) less = from_tag 0 b other (omega arith)
from_after (a ∷ key) [] less = cc
from_after (a ∷ key) (b ∷ other) less = then_not_above (nat_cmp a b) (key_cmp key other) (key_cmp (after key) other) less (λ is. from_after key other is)

pub below_after : (key : List ℕ) → key_cmp key (after key) ≡ Less
below_after [] = refl
below_after (a ∷ key) =
    let tied : nat_cmp a a ≡ Equal = sym (nat_cmp_is a a Equal refl) in
    ap (λ (r : Ordering). ordering_then r (key_cmp key (after key))) tied ∙ below_after key

-- fewer rows come from it on
module _ (m : KeyMap) (from : List ℕ) (e : Entry) (more : List Entry) (first : entries_from from (entries m) ≡ e ∷ more) where
  abbrev next : List ℕ
  next = after e.0

  from_next : IsFrom from next
  from_next = from_trans from e.0 next (first_is_from m from e more first) (less_from e.0 next (below_after e.0))

  pub fewer_after : length (entries_from next (entries m)) < length (entries_from from (entries m))
  fewer_after = search (rules, fewer, from_next, flip_less, e.0, below_after, few_from)

-- ---- a row is the first one from its own key on
from_itself : (key : List ℕ) → IsFrom key key
from_itself key = ap is_gt (tied_itself nat_list_cmp_total key)

not_apart : (a b : List ℕ) → IsFrom a b → IsFrom b a → a ≡ b
not_apart a b one other = search (rules, from_or_same, clash, flip_less)

pub first_itself : (m : KeyMap) (key value : List ℕ) → get m key ≡ Some value → (more : List Entry) × (entries_from key (entries m) ≡ (key, value) ∷ more)
first_itself m key value there = by (entries_from key (entries m)) refl
  where
    by : (es : List Entry) → entries_from key (entries m) ≡ es → (more : List Entry) × (es ≡ (key, value) ∷ more)
    by [] none = absurd (first_none m key none key value there (from_itself key))
    by (e ∷ more) first =
        let same : key ≡ e.0 = not_apart key e.0 (first_is_from m key e more first) (first_least m key e more first key value there (from_itself key)) in
        let values : e.1 ≡ value = value_is e.1 value (sym (first_there m key e more first) ∙ ap (get m) (sym same) ∙ there) in
        (more, λ i. (sym same i, values i) ∷ more)
