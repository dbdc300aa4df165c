-- Plans come and go, and the rows stay tidy.
use Rattle.std.{specs.FinMap.{insert, remove}, proofs.{Common.{rules, Bool, ◌≡◌, ◌⊎◌, ◌<◌, ◌+◌, ◌^◌, ℕ, List, [], sym, ap, subst, ◌∙◌, inl, inr, arith}, lemmas.Bool.cases_eq}}
use Rattle.desk_store_rows.specs.{Rows.SameTag, Steps.one_plan_more, Tidy.TidyWith, claim.{Keys.{key_of, Fits, counters, retired, named}, Lists.chunks_bytes}}
use Rattle.desk_store_rows.specs.claim.{Rows.{KeyMap, row_in, Has, Lacks}, Tidy.{IsNumbered, IsNamedBy, IsKnown, AreHoldings, Tidy}, Values.{plan_bytes, counters_bytes}}
use Rattle.desk_store_rows.{specs.declared.value.StoredPlan.StoredPlan, proofs.{Changes.{cases_key, other_row}, HolderCounts.holder_counts_stay, OneDesk.row_number}}
use Rattle.desk_store_rows.proofs.Frames.{put_is_there, put_keeps, put_keeps_tag, put_keeps_row, removed_is_gone, remove_keeps, remove_keeps_tag, tag_follows}
use Rattle.desk_store_rows.proofs.OneGeography.{value_is, no_value}
use Rattle.desk_store_rows.proofs.TidyParts.{removed_fewer, IsFewer, was_numbered, holders_fewer, same_fewer, PlansKept, kept_of, some_or_none, numbered_moves, naming_moves, chunks_stay, loads_stay, rows_put, rows_removed, counters_put, stays_tidy}

-- ---- one row, one plan
pub row_says : (m : KeyMap) (name : List ℕ) (p q : StoredPlan) → Has m (named name) (plan_bytes p) → Has m (named name) (plan_bytes q) → plan_bytes p ≡ plan_bytes q
row_says m name p q has also = value_is (plan_bytes p) (plan_bytes q) (sym has ∙ also)

pub number_says : (m : KeyMap) (name : List ℕ) (p : StoredPlan) (number : ℕ) → p.number < 2 ^ 64 → Has m (named name) (plan_bytes p) → IsNumbered m name number → p.number ≡ number
number_says m name p number fits has is = search (rules, row_number, row_says)

-- ---- a plan is created
module _ (m : KeyMap) (limit : ℕ) (name : List ℕ) (p : StoredPlan) (kept : PlansKept m limit) (lacks : Lacks m (named name)) (is : p.number ≡ limit) (none : p.revisions ≡ 0) (fits : limit < 2 ^ 64) where
  abbrev made : KeyMap
  made = insert m (key_of (named name)) (plan_bytes p)

  other_there : (other : List ℕ) → (other ≡ name → ⊥) → row_in made (named other) ≡ row_in m (named other)
  other_there other apart = put_keeps m (key_of (named name)) (plan_bytes p) (key_of (named other)) (other_row name other apart)

  marks : SameTag 68 m made
  marks = put_keeps_tag m 68 80 name (plan_bytes p) (λ e. absurd (omega arith))

  parts : SameTag 82 m made
  parts = put_keeps_tag m 82 80 name (plan_bytes p) (λ e. absurd (omega arith))

  -- a plan that is there is the new one, or was there
  came : (other : List ℕ) (number : ℕ) → IsNumbered made other number → ((other ≡ name) × (number ≡ limit)) ⊎ IsNumbered m other number
  came other number there = search (arith, cases_key other name, number_says, put_is_there, numbered_moves, other_there)

  known : (plan : ℕ) → IsKnown m plan → IsKnown made plan
  known plan given = search (arith, cases_key, no_value, numbered_moves, other_there, marks)

  not_known : IsKnown m limit → ⊥
  not_known (inl (other, there)) = (let less = kept.below other limit there in absurd (omega arith))
  not_known (inr mark) = (let less = kept.marks_below limit [] fits mark in absurd (omega arith))

  plans_made : PlansKept made (limit + 1)
  plans_made = record {
    below = λ other number there. elim (came other number there) [
      | inl new ↦ (let same = new.1 in omega arith)
      | inr old ↦ (let less = kept.below other number old in omega arith)
    ];
    marks_below = λ plan value few there. let less = kept.marks_below plan value few (sym (marks _) ∙ there) in omega arith;
    one = λ one other number there also. elim (came one number there) [
      | inl new ↦ elim (came other number also) [
        | inl newer ↦ new.0 ∙ sym newer.0
        | inr old ↦ (let same = new.1 in let less = kept.below other number old in absurd (omega arith))
      ]
      | inr old ↦ elim (came other number also) [
        | inl newer ↦ (let same = newer.1 in let less = kept.below one number old in absurd (omega arith))
        | inr older ↦ kept.one one other number old older
      ]
    ];
    gone = λ other number there. marks _ ∙ elim (came other number there) [
      | inl new ↦ search (arith, some_or_none)
      | inr old ↦ kept.gone other number old
    ];
    parts = λ plan revision index value few there. known plan (kept.parts plan revision index value few (sym (parts _) ∙ there));
    told = λ plan revision index value few there. kept.told plan revision index value few (sym (parts _) ∙ there);
    counted = λ other q q_fits small has revision index value few there. elim (cases_key other name) [
      | inl same ↦ absurd (
          let bytes : plan_bytes p ≡ plan_bytes q = row_says made name p q (put_is_there m (key_of (named name)) (plan_bytes p)) (subst (λ o. Has made (named o) (plan_bytes q)) same has) in
          let number : q.number ≡ limit = sym (row_number p q (omega arith) q_fits bytes) ∙ is in
          not_known (subst (λ k. IsKnown m k) number (kept.parts q.number revision index value few (sym (parts _) ∙ there))))
      | inr apart ↦ kept.counted other q q_fits small (sym (other_there other apart) ∙ has) revision index value few (sym (parts _) ∙ there)
    ];
  }

  holdings_made : SameTag 72 m made
  holdings_made = put_keeps_tag m 72 80 name (plan_bytes p) (λ e. absurd (omega arith))

  -- the new plan names no chunk
  holders_made : (new : Bool) → AreHoldings m new → AreHoldings made new
  holders_made new holders = record {
    told = put_keeps_tag m 86 80 name (plan_bytes p) (λ e. absurd (omega arith)) [] ∙ holders.told;
    held = λ plan number value few there. let is = holders.held plan number value few (sym (holdings_made _) ∙ there) in (is.0, naming_moves m made plan number parts is.1);
    counted_by_holders = holder_counts_stay m made holdings_made (put_keeps_tag m 75 80 name (plan_bytes p) (λ e. absurd (omega arith))) holders.counted_by_holders;
    hold = λ is_new other plan number there naming.
        let before : IsNamedBy m plan number = naming_moves made m plan number (λ rest. sym (parts rest)) naming in
        elim (came other plan there) [
          | inl new ↦ absurd (not_known (subst (λ k. IsKnown m k) new.1 (kept.parts plan before.revision before.index (chunks_bytes before.numbers) before.part_fits before.row)))
          | inr old ↦ holdings_made _ ∙ holders.hold is_new other plan number old before
        ];
  }

-- so the rows stay tidy, with the counters one plan further
pub created_tidy : (m : KeyMap) (tidy : Tidy m) (name : List ℕ) (p : StoredPlan) → Fits (named name) → Lacks m (named name) → p.number ≡ tidy.next.plan → p.revisions ≡ 0 → tidy.next.plan + 1 < 2 ^ 64
    → TidyWith (insert (insert m (key_of (named name)) (plan_bytes p)) (key_of counters) (counters_bytes (one_plan_more tidy.next))) (one_plan_more tidy.next) tidy.new
created_tidy m tidy name p fits lacks is none room =
    let next = tidy.next in
    let kept = kept_of m tidy in
    let value = plan_bytes p in
    let n = insert m (key_of (named name)) value in
    let same = λ (tag : ℕ) (apart : tag ≡ 80 → ⊥). put_keeps_tag m tag 80 name value apart in
    let rows = rows_put m (named name) value fits kept.rows in
    let plans = plans_made m next.plan name p kept.plans lacks is none (omega arith) in
    let holders = holders_made m next.plan name p kept.plans lacks is none (omega arith) tidy.new kept.holders in
    counters_put n (one_plan_more next) tidy.new (record { plan_fits = room; chunk_fits = tidy.fits.chunk_fits; load_fits = tidy.fits.load_fits })
    (search (arith, rows, plans, chunks_stay m n next.chunk next.chunk, loads_stay m n next.load next.load, holders, same, kept))

-- ---- a plan is taken away
module _ (m : KeyMap) (limit : ℕ) (name : List ℕ) (number : ℕ) (kept : PlansKept m limit) (is : IsNumbered m name number) where
  abbrev less : KeyMap
  less = remove m (key_of (named name))

  abbrev left : KeyMap
  left = insert less (key_of (retired number)) []

  left_names : SameTag 80 less left
  left_names = put_keeps_tag less 80 68 _ [] (λ e. absurd (omega arith))

  left_parts : SameTag 82 m left
  left_parts = tag_follows 82 m less left (remove_keeps_tag m 82 80 name (λ e. absurd (omega arith))) (put_keeps_tag less 82 68 _ [] (λ e. absurd (omega arith)))

  marked : Has left (retired number) []
  marked = put_is_there less (key_of (retired number)) []

  other_marks : (plan : ℕ) → plan < 2 ^ 64 → (plan ≡ number → ⊥) → row_in left (retired plan) ≡ row_in m (retired plan)
  other_marks plan fits apart = put_keeps_row less (retired number) [] (retired plan) is.fits fits (λ e. apart (cc)) ∙ remove_keeps_tag m 68 80 name (λ e. absurd (omega arith)) _

  -- a plan that is still there was there
  names_fewer : IsFewer 80 m left
  names_fewer rest value there = removed_fewer 80 m (key_of (named name)) rest value (sym (left_names rest) ∙ there)

  still_known : (plan : ℕ) → plan < 2 ^ 64 → IsKnown m plan → IsKnown left plan
  still_known plan fits (inl (other, there)) = elim (cases_key other name) [
    | inl same ↦ inr (subst (λ k. Has left (retired k) []) (sym is.is ∙ number_says m name is.plan plan (subst (λ k. k < 2 ^ 64) (sym is.is) is.fits) is.row (subst (λ o. IsNumbered m o plan) same there)) marked)
    | inr apart ↦ inl (other, numbered_moves m left other plan (left_names _ ∙ remove_keeps m (key_of (named name)) (key_of (named other)) (other_row name other apart)) there)
  ]
  still_known plan fits (inr mark) = search (rules, cases_eq plan number, marked, other_marks)

  plans_left : PlansKept left limit
  plans_left = record {
    below = λ other plan there. kept.below other plan (was_numbered m left other plan names_fewer there);
    marks_below = λ plan value few there. search (arith, cases_eq plan number, kept.below name number is, other_marks);
    one = λ one other plan there also. kept.one one other plan (was_numbered m left one plan names_fewer there) (was_numbered m left other plan names_fewer also);
    gone = λ other plan there. elim (cases_eq plan number) [
      | inl same ↦ absurd (no_value (plan_bytes there.plan) (sym there.row ∙ (left_names _ ∙ ap (λ o. row_in less (named o)) (kept.one other name number (subst (λ k. IsNumbered m other k) same (was_numbered m left other plan names_fewer there)) is) ∙ removed_is_gone m (key_of (named name)))))
      | inr apart ↦ other_marks plan there.fits apart ∙ kept.gone other plan (was_numbered m left other plan names_fewer there)
    ];
    parts = λ plan revision index value few there. still_known plan few.0 (kept.parts plan revision index value few (sym (left_parts _) ∙ there));
    told = λ plan revision index value few there. kept.told plan revision index value few (sym (left_parts _) ∙ there);
    counted = λ other q q_fits small has revision index value few there. kept.counted other q q_fits small (names_fewer _ _ has) revision index value few (sym (left_parts _) ∙ there);
  }

  left_holdings : SameTag 72 m left
  left_holdings = tag_follows 72 m less left (remove_keeps_tag m 72 80 name (λ e. absurd (omega arith))) (put_keeps_tag less 72 68 _ [] (λ e. absurd (omega arith)))

  -- what the plan holds it holds still
  holders_left : (new : Bool) → AreHoldings m new → AreHoldings left new
  holders_left new holders =
      let counted = holder_counts_stay m left left_holdings (tag_follows 75 m less left (remove_keeps_tag m 75 80 name (λ e. absurd (omega arith))) (put_keeps_tag less 75 68 _ [] (λ e. absurd (omega arith)))) holders.counted_by_holders in
      holders_fewer m left new (tag_follows 86 m less left (remove_keeps_tag m 86 80 name (λ e. absurd (omega arith))) (put_keeps_tag less 86 68 _ [] (λ e. absurd (omega arith))) []) names_fewer (same_fewer 72 m left left_holdings) (same_fewer 82 m left left_parts) counted
      (λ plan number value few there. naming_moves m left plan number left_parts) (λ other plan number there naming held. left_holdings _ ∙ held) holders

-- so the rows stay tidy, with the same counters
pub retired_tidy : (m : KeyMap) (tidy : Tidy m) (name : List ℕ) (number : ℕ) → IsNumbered m name number → TidyWith (insert (remove m (key_of (named name))) (key_of (retired number)) []) tidy.next tidy.new
retired_tidy m tidy name number is =
    let next = tidy.next in
    let kept = kept_of m tidy in
    let mid = remove m (key_of (named name)) in
    let n = insert mid (key_of (retired number)) [] in
    let same = λ (tag : ℕ) (not_name : tag ≡ 80 → ⊥) (not_mark : tag ≡ 68 → ⊥). tag_follows tag m mid n (remove_keeps_tag m tag 80 name not_name) (put_keeps_tag mid tag 68 _ [] not_mark) in
    let rows = rows_put mid (retired number) [] is.fits (rows_removed m (key_of (named name)) kept.rows) in
    let plans = plans_left m next.plan name number kept.plans is in
    let holders = holders_left m next.plan name number kept.plans is tidy.new kept.holders in
    stays_tidy m n tidy (same 65 (λ e. absurd (omega arith)) (λ e. absurd (omega arith)) [])
    (search (arith, rows, plans, chunks_stay m n next.chunk next.chunk, loads_stay m n next.load next.load, holders, same, kept))
