-- What counts tell beside what was counted.
use Rattle.{std.{specs.{BTreeMap.{BTreeMap, get as count_at}, FinMap.entries, List.AllByRecursion, Ordering.nat_cmp}, proofs.lemmas.Bool.cases_lt}, btree_scan.specs.Prefixes.under}
use Rattle.std.proofs.Common.{◌≡◌, ◌⊎◌, ◌<◌, ◌≤◌, ◌+◌, ◌^◌, ℕ, zero, suc, List, [], ◌∷◌, Option, Some, None, refl, sym, ap, ◌∙◌, inl, inr, arith, drop}
use Rattle.desk_store_rows.specs.claim.{Holders.{AreHolders, IsTallied, AreTallied, holder_count_row}, Keys.{key_of, holder_count, in_eight}, Rows.{KeyMap, row_in, Has}}
use Rattle.{page_btree.specs.node.claim.Entries.Entry, plan_revisions_sweeps.specs.Checks.{noted, HasCount, AreCounts, HasCounts, IsEntryTold, AreTold}}
use Rattle.{btree_scan.proofs.RowsFound.{IsNextUnder, all_found, found_among}, desk_store_rows.proofs.{Counting.few, HolderCounts.eight_says, OneGeography.{no_value, value_is}}}
use Rattle.plan_revisions_sweeps.proofs.Keys.{row_under, holder_count_is}

-- ---- one set is of one size
-- the place at which the other counting off has a plan
module _ (m : KeyMap) (number a b : ℕ) (one : AreHolders m number a) (other : AreHolders m number b) where
  place_by : (place : ℕ) → (place < a) ⊎ (a ≤ place) → ℕ
  place_by place (inl less) = (let is = one.each place less in (other.all (one.plan_at place) is.0 is.1).0)
  place_by place (inr more) = 0

  place_is : (place : ℕ) (s : (place < a) ⊎ (a ≤ place)) → place < a → (place_by place s < b) × (other.plan_at (place_by place s) ≡ one.plan_at place)
  unfolding place_by
  place_is place (inl less) within = (let is = one.each place less in let at = other.all (one.plan_at place) is.0 is.1 in (at.1, at.2))
  place_is place (inr more) within = absurd (omega arith)

  place_in : ℕ → ℕ
  place_in place = place_by place (cases_lt place a)

  no_more : a ≤ b
  unfolding place_in
  no_more = few a b place_in (λ place less. (place_is place (cases_lt place a) less).0)
      (λ i j in_i in_j same. one.apart i j in_i in_j (sym (place_is i (cases_lt i a) in_i).1 ∙ ap other.plan_at same ∙ (place_is j (cases_lt j a) in_j).1))

one_size : (m : KeyMap) (number a b : ℕ) → AreHolders m number a → AreHolders m number b → a ≡ b
one_size m number a b one other = let up = no_more m number a b one other in let down = no_more m number b a other one in omega arith

-- ---- a count that tells something else is none of a tidy map
told_by : (counts : BTreeMap ℕ ℕ) (m : KeyMap) (number : ℕ) (value : List ℕ) → number < 2 ^ 64 → HasCount counts m number → (is : IsTallied m number) → Has m (holder_count number) value → (count : ℕ) × (count < 2 ^ 64) × (value ≡ in_eight count) × (count_at nat_cmp counts number ≡ Some count)
told_by counts m number value fits counted is has = by is.count is.fits is.row is.holders
  where
    by : (count : ℕ) → count < 2 ^ 64 → row_in m (holder_count number) ≡ holder_count_row count → AreHolders m number count → (count : ℕ) × (count < 2 ^ 64) × (value ≡ in_eight count) × (count_at nat_cmp counts number ≡ Some count)
    by zero small row holders = absurd (no_value value (sym has ∙ row))
    by (suc more) small row holders =
        let told = counted.told ∙ ap noted (one_size m number counted.count (suc more) counted.holders holders) in
        (more + 1, omega arith, value_is value (in_eight (more + 1)) (sym has ∙ row), told)

pub not_told : (counts : BTreeMap ℕ ℕ) (m : KeyMap) (taken : List Entry) (e : Entry) → HasCounts counts m → IsNextUnder (75 ∷ []) m taken e → (IsEntryTold counts e → ⊥) → ⊥
not_told counts m taken e has next other =
    let at = row_under holder_count (75 ∷ []) holder_count_is m e.0 e.1 has.is.tidy.rows next.there next.under in
    let by = told_by counts m at.a e.1 at.fits (has.counts_are at.a at.fits) (has.is.tidy.holdings.counted_by_holders at.a at.fits) at.there in
    other (record { number = at.a; count = by.0; fits = at.fits; key = at.key_is; value = by.2; count_fits = by.1; told = by.3 })

-- ---- rows of counts, one after the other
pub all_told : (counts : BTreeMap ℕ ℕ) (m : KeyMap) (rows : List Entry) → under (75 ∷ []) (entries m) ≡ rows
    → AllByRecursion (IsEntryTold counts) rows → AreTold counts m
all_told counts m rows whole all number value fits has =
    let key = key_of (holder_count number) in
    let is = all_found (IsEntryTold counts) key value rows all (sym (found_among m (75 ∷ []) rows key refl whole) ∙ has) in
    (is.count, is.value, ap (count_at nat_cmp counts) (sym (eight_says is.number number is.fits fits (ap (λ (k : List ℕ). drop 1 k) (sym is.key)))) ∙ is.told)

-- ---- so chunks are counted
pub counted_by_holders_by : (counts : BTreeMap ℕ ℕ) (m : KeyMap) → AreCounts counts m → AreTold counts m → AreTallied m
counted_by_holders_by counts m counted told number fits = by has.count has.fits has.told has.holders has.shared
  where
    has : HasCount counts m number
    has = counted number fits

    none_there : (row : Option (List ℕ)) → row_in m (holder_count number) ≡ row → count_at nat_cmp counts number ≡ None → row_in m (holder_count number) ≡ None
    none_there None is none = is
    none_there (Some value) is none = (let t = told number value fits is in let clash : ◌≡◌ {A = Option ℕ} (Some t.0) None = sym t.2 ∙ none in cc)

    by : (count : ℕ) → count < 2 ^ 64 → count_at nat_cmp counts number ≡ noted count → AreHolders m number count → (0 < count → (value : List ℕ) × Has m (holder_count number) value) → IsTallied m number
    by zero small note holders shared = record { count = 0; fits = small; row = none_there (row_in m (holder_count number)) refl note; holders = holders }
    by (suc more) small note holders shared =
        (let there = shared (omega arith) in
        let t = told number there.0 fits there.1 in
        record { count = suc more; fits = small; row = there.1 ∙ ap Some (t.1 ∙ ap in_eight (cc)); holders = holders })
