-- The counts of the plans that hold a chunk go up and down.
use Rattle.std.{specs.{FinMap.{get, empty, insert, remove, get-empty}, Int.from_be_bytes}, proofs.lemmas.{Bool.cases_eq, Nat.from_be_bytes-to_be_bytes_8}}
use Rattle.{std.proofs.Common.{◌≡◌, ◌<◌, ◌≤◌, ◌+◌, ◌-◌, ◌^◌, ℕ, zero, suc, List, [], ◌++◌, Some, sym, ap, subst, ◌∙◌, inl, inr, w64, arith}, desk_store_rows.specs.Rows.SameTag}
use Rattle.desk_store_rows.specs.{HolderLaws.{HoldersLeave, JoinsHolders, IsHeldByAnother}, Holders.{AreHoldersBelow, with_holder_count, released}, claim.Order.key_cmp}
use Rattle.desk_store_rows.specs.claim.{Holders.{IsHeld, AreHolders, IsTallied, AreTallied, holder_count_row, holding_rows}, Keys.{key_of, holding, holder_count, in_eight}}
use Rattle.desk_store_rows.{specs.claim.{Puts.put_rows, Rows.{KeyMap, row_in, Has, Lacks}}, proofs.OneGeography.{value_is, no_value}}
use Rattle.desk_store_rows.proofs.Counting.{OthersHold, few_holders, holders_moved, no_holders, holders_joined, holders_left}
use Rattle.desk_store_rows.proofs.Frames.{put_is_there, put_keeps_row, put_keeps_tag, removed_is_gone, remove_keeps_row, remove_keeps_tag}

-- ---- a row of a count tells one number
pub eight_says : (a b : ℕ) → a < 2 ^ 64 → b < 2 ^ 64 → in_eight a ≡ in_eight b → a ≡ b
eight_says a b fa fb same = sym (from_be_bytes-to_be_bytes_8 a fa) ∙ ap (from_be_bytes w64) same ∙ from_be_bytes-to_be_bytes_8 b fb

pub holder_count_says : (a b : ℕ) → a < 2 ^ 64 → b < 2 ^ 64 → holder_count_row a ≡ holder_count_row b → a ≡ b
holder_count_says a b fa fb same = search (arith, no_value, eight_says, value_is)

-- ---- keys
pub other_plan : (plan number other : ℕ) → (other ≡ plan → ⊥) → holding other number ≡ holding plan number → ⊥
other_plan plan number other apart same = apart (cc)

pub other_chunk : (plan number p other : ℕ) → (other ≡ number → ⊥) → holding p other ≡ holding plan number → ⊥
other_chunk plan number p other apart same = apart (cc)

-- ---- all stay
pub counted_by_holders_moved : (m n : KeyMap) (number : ℕ) → ((plan : ℕ) → plan < 2 ^ 64 → row_in n (holding plan number) ≡ row_in m (holding plan number)) → row_in n (holder_count number) ≡ row_in m (holder_count number) → IsTallied m number → IsTallied n number
counted_by_holders_moved m n number same count is = record { count = is.count; fits = is.fits; row = count ∙ is.row; holders = holders_moved m n number is.count same is.holders }

pub holder_counts_stay : (m n : KeyMap) → SameTag 72 m n → SameTag 75 m n → AreTallied m → AreTallied n
holder_counts_stay m n holdings counts all number fits = counted_by_holders_moved m n number (λ plan small. holdings _) (counts _) (all number fits)

pub never : (key value : List ℕ) → get {K = List ℕ} {X = List ℕ} {R = key_cmp} empty key ≡ Some value → ⊥
never key value there = no_value value (sym there ∙ get-empty key_cmp key)

pub nothing_counted_by_holders : AreTallied empty
nothing_counted_by_holders number fits = record { count = 0; fits = omega arith; row = get-empty key_cmp (key_of (holder_count number)); holders = no_holders empty number (λ plan small held. never (key_of (holding plan number)) [] held) }

-- ---- what a count tells
pub held_so_many : (m : KeyMap) (number count : ℕ) → IsTallied m number → count < 2 ^ 64 → row_in m (holder_count number) ≡ holder_count_row count → AreHolders m number count
held_so_many m number count is fits row = subst (λ (k : ℕ). AreHolders m number k) (holder_count_says is.count count is.fits fits (sym is.row ∙ row)) is.holders

pub none_holds : (m : KeyMap) (plan number : ℕ) → AreTallied m → plan < 2 ^ 64 → number < 2 ^ 64 → Lacks m (holder_count number) → IsHeld m plan number → ⊥
none_holds m plan number all plan_fits fits lacks held = (let is = all number fits in (search (arith, is.holders.all, no_value)))

pub held_counted_by_holders : (m : KeyMap) (plan number : ℕ) → AreTallied m → plan < 2 ^ 64 → number < 2 ^ 64 → IsHeld m plan number → (count : ℕ) × (count + 1 < 2 ^ 64) × Has m (holder_count number) (in_eight (count + 1))
held_counted_by_holders m plan number all plan_fits fits held =
    let is = all number fits in
    let some : is.count ≡ suc (is.count - 1) = (let at = is.holders.all plan plan_fits held in omega arith) in
    (is.count - 1, omega arith, is.row ∙ ap holder_count_row some)

some_then : (m : KeyMap) (number count : ℕ) (value : List ℕ) → AreHolders m number count → row_in m (holder_count number) ≡ holder_count_row count → Has m (holder_count number) value → (plan : ℕ) × (plan < 2 ^ 64) × IsHeld m plan number
some_then m number count value h row has = search (arith, h.each 0, no_value)

pub some_holder : (m : KeyMap) (number : ℕ) (value : List ℕ) → AreTallied m → number < 2 ^ 64 → Has m (holder_count number) value → (plan : ℕ) × (plan < 2 ^ 64) × IsHeld m plan number
some_holder m number value all fits has = (let is = all number fits in some_then m number is.count value is.holders is.row has)

pub another_holds : (m : KeyMap) (plan number : ℕ) (value : List ℕ) → AreTallied m → number < 2 ^ 64 → Has m (holder_count number) value → Lacks m (holding plan number) → IsHeldByAnother m plan number
another_holds m plan number value all fits has lacks = search (arith, some_holder m number value all fits has, no_value)

-- ---- one more
module _ (m : KeyMap) (plan number count : ℕ) (plan_fits : plan < 2 ^ 64) (fits : number < 2 ^ 64) where
  abbrev pub with_holding : KeyMap
  with_holding = insert m (key_of (holding plan number)) []

  abbrev pub held_too : KeyMap
  held_too = put_rows m (holding_rows plan number count)

  pub too_holdings : SameTag 72 with_holding held_too
  too_holdings = put_keeps_tag with_holding 72 75 (in_eight number) (in_eight (count + 1)) (λ e. absurd (omega arith))

  pub too_held : IsHeld held_too plan number
  too_held = too_holdings _ ∙ put_is_there m (key_of (holding plan number)) []

pub joins_holders : (m : KeyMap) (limit plan number count : ℕ) → AreTallied m → AreHoldersBelow m limit → limit < 2 ^ 64 → plan < limit → number < 2 ^ 64 → count < 2 ^ 64
    → Lacks m (holding plan number) → row_in m (holder_count number) ≡ holder_count_row count → JoinsHolders m limit plan number count
joins_holders m limit plan number count all below limit_fits less fits count_fits lacks row =
    let plan_fits : plan < 2 ^ 64 = omega arith in
    let n = held_too m plan number count plan_fits fits in
    let others : OthersHold m n plan number = λ other other_fits apart. too_holdings m plan number count plan_fits fits _
    ∙ put_keeps_row m (holding plan number) [] (holding other number) (plan_fits, fits) (other_fits, fits) (other_plan plan number other apart) in
    let held = too_held m plan number count plan_fits fits in
    let h : AreHolders n number (suc count) = holders_joined m n plan number count plan_fits others (λ there. no_value [] (sym there ∙ lacks)) held (held_so_many m number count (all number fits) count_fits row) in
    let most : suc count ≤ limit = few_holders n number (suc count) limit h (λ p p_fits there. elim (cases_eq p plan) [
      | inl same ↦ omega arith
      | inr apart ↦ below p number p_fits fits (sym (others p p_fits apart) ∙ there)
    ]) in
    record {
      fits = omega arith;
      counted_by_holders = λ other other_fits. elim (cases_eq other number) [
        | inl same ↦ subst (λ (k : ℕ). IsTallied n k) (sym same) (record { count = suc count; fits = omega arith; row = put_is_there (with_holding m plan number count plan_fits fits) (key_of (holder_count number)) (in_eight (count + 1)); holders = h })
        | inr apart ↦ counted_by_holders_moved m n other
            (λ p p_fits. too_holdings m plan number count plan_fits fits _ ∙ put_keeps_row m (holding plan number) [] (holding p other) (plan_fits, fits) (p_fits, other_fits) (other_chunk plan number p other apart))
            (put_keeps_row (with_holding m plan number count plan_fits fits) (holder_count number) (in_eight (count + 1)) (holder_count other) fits other_fits (λ e. apart (cc))
            ∙ put_keeps_tag m 75 72 (in_eight plan ++ in_eight number) [] (λ e. absurd (omega arith)) (in_eight other)) (all other other_fits)
      ];
    }

-- ---- one fewer
holder_count_keeps : (m : KeyMap) (number count other : ℕ) → number < 2 ^ 64 → other < 2 ^ 64 → (other ≡ number → ⊥) → row_in (with_holder_count m number count) (holder_count other) ≡ row_in m (holder_count other)
holder_count_keeps m number zero other fits other_fits apart = remove_keeps_row m (holder_count number) (holder_count other) fits other_fits (λ e. apart (cc))
holder_count_keeps m number (suc more) other fits other_fits apart = put_keeps_row m (holder_count number) (in_eight (more + 1)) (holder_count other) fits other_fits (λ e. apart (cc))

pub holders_leave : HoldersLeave
holders_leave m plan number count all plan_fits fits count_fits held row other other_fits =
    let without = remove m (key_of (holding plan number)) in
    let n = released m plan number count in
    let holdings : SameTag 72 without n = search (arith, remove_keeps_tag, put_keeps_tag) in
    elim (cases_eq other number) [
      | inl same ↦ subst (λ (k : ℕ). IsTallied n k) (sym same) (record {
        count = count;
        fits = omega arith;
        row = search (arith, removed_is_gone, put_is_there);
        holders = holders_left m n plan number count plan_fits
            (λ o o_fits apart. holdings _ ∙ remove_keeps_row m (holding plan number) (holding o number) (plan_fits, fits) (o_fits, fits) (other_plan plan number o apart)) held
            (λ there. no_value [] (sym there ∙ holdings _ ∙ removed_is_gone m (key_of (holding plan number)))) (held_so_many m number (suc count) (all number fits) (omega arith) row);
      })
      | inr apart ↦ counted_by_holders_moved m n other
          (λ p p_fits. holdings _ ∙ remove_keeps_row m (holding plan number) (holding p other) (plan_fits, fits) (p_fits, other_fits) (other_chunk plan number p other apart))
          (holder_count_keeps without number count other fits other_fits apart ∙ remove_keeps_tag m 75 72 (in_eight plan ++ in_eight number) (λ e. absurd (omega arith)) (in_eight other)) (all other other_fits)
    ]
