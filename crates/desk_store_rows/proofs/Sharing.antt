-- A plan comes to hold chunks, one after the other.
use Rattle.std.{specs.{FinMap.insert, Prelude.Contains}, proofs.Common.{rules, ◌≡◌, ◌<◌, ◌+◌, ◌^◌, ℕ, suc, List, [], ◌∷◌, ◌++◌, None, refl, sym, ap, subst, ◌∙◌, inl, inr, arith}}
use Rattle.{std.proofs.lemmas.{Bool.cases_eq, Nat.from_be_bytes-to_be_bytes_8}, desk_store_rows.specs.{HolderLaws.JoinsHolders, Shares.{hold_all, CanHold, Holds}}}
use Rattle.desk_store_rows.specs.claim.{Holders.{IsHeld, holder_count_row}, Keys.{key_of, Fits, holding, holder_count, in_eight}, Rows.{KeyMap, row_in, Has}}
use Rattle.desk_store_rows.{specs.claim.Shares.{count_of, hold}, proofs.{Frames.{put_keeps_tag, put_keeps_row, tag_follows}, OneGeography.value_is, TidyParts.rows_put}}
use Rattle.desk_store_rows.proofs.{HolderCounts.{joins_holders, held_too, too_holdings, too_held}, TidyRevisions.contains_or_not}

-- ---- a count is read back
pub count_back : (count : ℕ) → count < 2 ^ 64 → count_of (holder_count_row count) ≡ count
count_back count fits = search (arith, from_be_bytes-to_be_bytes_8)

-- ---- lists
pub only_one : (number x : ℕ) → Contains (number ∷ []) x → number ≡ x
only_one number x given = search (arith)

first_one : (number : ℕ) (numbers : List ℕ) → Contains (number ∷ numbers) number
first_one number numbers = (0, omega arith, refl)

pub later_one : (number x : ℕ) (numbers : List ℕ) → Contains numbers x → Contains (number ∷ numbers) x
later_one number x numbers (k, within, is) = (suc k, omega arith, is)

-- ---- one chunk
module _ (m : KeyMap) (limit plan number : ℕ) (can : CanHold m limit plan) (fits : number < 2 ^ 64) where
  plan_fits : plan < 2 ^ 64
  plan_fits = (let less = can.plan_below in let few = can.limit_fits in omega arith)

  -- the plan holds it already
  held_already : (value : List ℕ) → Has m (holding plan number) value → Holds m m limit plan (number ∷ [])
  held_already value there = search (rules, only_one, plan_fits)

  abbrev count : ℕ
  count = count_of (row_in m (holder_count number))

  abbrev made : KeyMap
  made = held_too m plan number count plan_fits fits

  others_then : (other x : ℕ) → Fits (holding other x) → ((other ≡ plan) × Contains (number ∷ []) x → ⊥) → row_in made (holding other x) ≡ row_in m (holding other x)
  others_then other x other_fits apart = too_holdings m plan number count plan_fits fits _ ∙ put_keeps_row m (holding plan number) [] (holding other x) (plan_fits, fits) other_fits (λ same. search rules)

  held_then : IsHeld made plan number
  held_then = too_held m plan number count plan_fits fits

  holds_now : row_in m (holding plan number) ≡ None → Holds m made limit plan (number ∷ [])
  holds_now lacks =
      let is = can.counted_by_holders number fits in
      let same : count ≡ is.count = ap count_of is.row ∙ count_back is.count is.fits in
      let joins : JoinsHolders m limit plan number count = joins_holders m limit plan number count can.counted_by_holders can.below can.limit_fits can.plan_below fits (omega arith) lacks (is.row ∙ ap holder_count_row (sym same)) in
      record {
        can = record {
          counted_by_holders = joins.counted_by_holders;
          below = λ other x other_fits x_fits there. elim (cases_eq other plan) [
            | inl same ↦ (let less = can.plan_below in omega arith)
            | inr apart ↦ can.below other x other_fits x_fits (sym (others_then other x (other_fits, x_fits) (λ both. apart both.0)) ∙ there)
          ];
          empty = λ x value x_fits there. elim (cases_eq number x) [
            | inl same ↦ value_is value [] (sym there ∙ ap (λ (k : ℕ). row_in made (holding plan k)) (sym same) ∙ held_then)
            | inr apart ↦ can.empty x value x_fits (sym (others_then plan x x_fits (λ both. apart (only_one number x both.1))) ∙ there)
          ];
          limit_fits = can.limit_fits;
          plan_below = can.plan_below;
        };
        held = λ x among. subst (λ (k : ℕ). IsHeld made plan k) (only_one number x among) held_then;
        others = others_then;
        rest = λ tag a b. tag_follows tag m (insert m (key_of (holding plan number)) []) made (put_keeps_tag m tag 72 (in_eight plan ++ in_eight number) [] a) (put_keeps_tag (insert m (key_of (holding plan number)) []) tag 75 (in_eight number) (in_eight (count + 1)) b);
        rows = λ rows. rows_put (insert m (key_of (holding plan number)) []) (holder_count number) (in_eight (count + 1)) fits (rows_put m (holding plan number) [] (plan_fits, fits) rows);
      }

  one_held : Holds m (hold m plan number) limit plan (number ∷ [])
  one_held = search (arith, holds_now, held_already)

-- ---- one after the other
more_held : (m n o : KeyMap) (limit plan number : ℕ) (numbers : List ℕ) → plan < 2 ^ 64 → ((x : ℕ) → Contains (number ∷ numbers) x → x < 2 ^ 64) → Holds m n limit plan (number ∷ []) → Holds n o limit plan numbers → Holds m o limit plan (number ∷ numbers)
more_held m n o limit plan number numbers plan_fits few one rest = record {
  can = rest.can;
  held = λ x among. elim (contains_or_not numbers x) [
    | inl later ↦ rest.held x later
    | inr none ↦ rest.others plan x (plan_fits, few x among) (λ both. none both.1) ∙ one.held x (0, omega arith, (search (arith, none)))
  ];
  others = λ other x fits apart. rest.others other x fits (λ both. apart (both.0, later_one number x numbers both.1))
      ∙ one.others other x fits (λ both. apart (both.0, subst (λ (k : ℕ). Contains (number ∷ numbers) k) (only_one number x both.1) (first_one number numbers)));
  rest = λ tag a b. tag_follows tag m n o (one.rest tag a b) (rest.rest tag a b);
  rows = λ rows. rest.rows (one.rows rows);
}

pub all_held : (m : KeyMap) (limit plan : ℕ) (numbers : List ℕ) → CanHold m limit plan → ((number : ℕ) → Contains numbers number → number < 2 ^ 64) → Holds m (hold_all m plan numbers) limit plan numbers
all_held m limit plan [] can few = search arith
all_held m limit plan (number ∷ numbers) can few =
    let fits : number < 2 ^ 64 = few number (first_one number numbers) in
    let one : Holds m (hold m plan number) limit plan (number ∷ []) = one_held m limit plan number can fits in
    more_held m (hold m plan number) (hold_all (hold m plan number) plan numbers) limit plan number numbers (plan_fits m limit plan number can fits) few one
    (all_held (hold m plan number) limit plan numbers one.can (λ x among. few x (later_one number x numbers among)))
