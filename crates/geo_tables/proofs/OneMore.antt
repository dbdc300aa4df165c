-- One element more of those that a load's rows hold.
use Rattle.std.{specs.{FinMap.get as row_at, List.slice_get, Prelude.{option_map, Result, Ok, Err, MatchResult}}, proofs.lemmas.{Bool.cases_lt, List.{take_all, take_more}}}
use Rattle.std.proofs.Common.{◌≡◌, ◌<◌, ◌+◌, ℕ, zero, suc, List, [], ◌∷◌, ◌++◌, length, length-append, take, Some, refl, sym, ap, subst, ◌∙◌, arith}
use Rattle.{std.proofs.lemmas.{List.Elements.All-push, Option.get_or_from_slice_get}, desk_store_pages.specs.Looking.{Gathers, IsOnly, Says}, page_btree.specs.gets.claim.Map.InTxn}
use Rattle.{desk_store_rows.specs.claim.Rows.KeyMap, geo_tables.specs.Elements.{AddsOne, HoldsElement, HoldsElements, IsIn, ValueErr}, page_store.specs.declared.pages.Pages.Pages}
use Rattle.{page_btree.specs.gets.declared.error.TreeError.{TreeError, TheVariants.{NotAStore, Memory}}, page_store.specs.claim.Transactions.{stored, disk_in, Passed}}
use Rattle.{page_store.specs.declared.txn.Txn.Txn, sector_device.specs.declared.SectorDevice.Ghosts, desk_store_pages.proofs.{Looking.{looked, not_looked}, Reading.one_value}}
use Rattle.geo_tables.proofs.Staging.{there}

-- the one at a place
pub record IsElement {X : Type 0} (bytes_of : X → List ℕ) (fits : X → Type 0) (key : List ℕ) (m : KeyMap) (xs : List X) (place : ℕ) : Type 0 where
  pub x : X
  pub held : HoldsElement bytes_of fits key m x
  pub next : take (place + 1) xs ≡ take place xs ++ x ∷ []

pub element_at : {X : Type 0} (bytes_of : X → List ℕ) (fits : X → Type 0) (key_at : ℕ → List ℕ) (count : ℕ) (m : KeyMap) (xs : List X) (place : ℕ) → place < count → HoldsElements bytes_of fits key_at count m xs → IsElement bytes_of fits (key_at place) m xs place
element_at {X = X} bytes_of fits key_at count m xs place less held =
    let long = held.long in
    let within : place < length xs = omega arith in
    let here = there xs place within in
    let same = get_or_from_slice_get xs place here.0 here.0 here.1 in
    record {
      x = here.0;
      held = record { fit = subst fits same (held.fit place here.0 within); row = held.rows place less ∙ ap (option_map bytes_of) here.1 };
      next = take_more xs place here.0 within ∙ ap (λ (x : X). take place xs ++ x ∷ []) same;
    }

-- ---- what was read is what the rows hold
at_end : {X : Type 0} (xs : List X) (x : X) → slice_get (xs ++ x ∷ []) (length xs) ≡ Some x
at_end [] x = refl
at_end (y ∷ ys) x = at_end ys x

in_prefix : {X : Type 0} (xs ys : List X) (place : ℕ) → place < length xs → slice_get (xs ++ ys) place ≡ slice_get xs place
in_prefix [] ys place less = absurd (omega arith)
in_prefix (x ∷ xs) ys zero less = refl
in_prefix (x ∷ xs) ys (suc place) less = in_prefix xs ys place (omega arith)

module _ {X : Type 0} (bytes_of : X → List ℕ) (fits : X → Type 0) (key_at : ℕ → List ℕ) (m : KeyMap) (count : ℕ) (before after : List X)
    (held : HoldsElements bytes_of fits key_at count m before) (adds : AddsOne (HoldsElement bytes_of fits (key_at count) m) before after) where
  abbrev both : List X
  both = before ++ adds.x ∷ []

  row_so : (place : ℕ) → place < count + 1 → row_at m (key_at place) ≡ option_map bytes_of (slice_get both place)
  row_so place less = search (arith, cases_lt, held.long, held.rows, in_prefix, adds.x, key_at, adds.one.said.row, at_end)

  one_more_held : HoldsElements bytes_of fits key_at (count + 1) m after
  one_more_held =
      let fit = All-push fits before adds.x held.fit adds.one.said.fit in
      subst (λ l. HoldsElements bytes_of fits key_at (count + 1) m l) (sym adds.added)
      (record { long = let long = held.long in let sum = length-append before (adds.x ∷ []) in omega arith; fit = fit; rows = row_so })

-- so far the first of them were read, and nothing else
pub record HoldsFirst {X : Type 0} (bytes_of : X → List ℕ) (fits : X → Type 0) (key_at : ℕ → List ℕ) (count place : ℕ) (m : KeyMap) (xs : List X) : Type 0 where
  pub held : HoldsElements bytes_of fits key_at place m xs
  pub first : (ys : List X) → HoldsElements bytes_of fits key_at count m ys → xs ≡ take place ys

module _ {X : Type 0} (bytes_of : X → List ℕ) (fits : X → Type 0) (key_at : ℕ → List ℕ) (count : ℕ) (m : KeyMap) where
  pub none_first : (xs : List X) → xs ≡ [] → HoldsFirst bytes_of fits key_at count 0 m xs
  none_first xs none = record { held = (search arith); first = λ ys held. none }

  pub one_more_first : (place : ℕ) (before after : List X) → place < count → HoldsFirst bytes_of fits key_at count place m before
      → AddsOne (HoldsElement bytes_of fits (key_at place) m) before after → HoldsFirst bytes_of fits key_at count (place + 1) m after
  one_more_first place before after less so adds = record {
    held = one_more_held bytes_of fits key_at m place before after so.held adds;
    first = λ ys held.
        let element = element_at bytes_of fits key_at count m ys place less held in
        adds.added ∙ (λ i. so.first ys held i ++ adds.one.only element.x element.held i ∷ []) ∙ sym element.next;
  }

  pub all_first : (place : ℕ) (xs : List X) → place ≡ count → HoldsFirst bytes_of fits key_at count place m xs → IsOnly (HoldsElements bytes_of fits key_at count m) xs
  all_first place xs same so = search (arith, so.held, so.first, take_all)

-- ---- a row's value holds its element
module _ {X : Type 0} (bytes_of : X → List ℕ) (fits : X → Type 0) (key bytes : List ℕ) (before after : List X) where
  module _ {D : Type 0} {g : Ghosts D} {t : Txn} {a b : Pages D g} where
    pub value_gathered : (r : Result (Unit {0}) TreeError) → Passed a b → ((disk_in b).is_honest → (m : KeyMap) → InTxn t (stored a) m → row_at m key ≡ Some bytes)
        → MatchResult r (λ u. AddsOne (IsIn bytes_of fits bytes) before after) (ValueErr (IsIn bytes_of fits bytes))
        → Gathers (λ m u. AddsOne (HoldsElement bytes_of fits key m) before after) (Says (HoldsElement bytes_of fits key)) t a b r
    value_gathered (Ok x) passed row adds = looked passed (λ honest m holds. search (arith, adds.x, adds.one.said.0, adds.one.said.1, adds.one.only, one_value, bytes_of, adds.added))
    value_gathered (Err NotAStore) passed row why = not_looked passed.quiet (λ honest m holds is. why is.0 (is.1.fit, one_value key (bytes_of is.0) bytes m is.1.row (row honest m holds)))
    value_gathered (Err Memory) passed row why = not_looked passed.quiet tt
    value_gathered (Err _) passed row why = absurd why
