-- A plan gets one revision more, and the rows stay tidy.
use Rattle.std.{specs.{Prelude.Contains, Set.is_member}, proofs.lemmas.{Bool.{cases_Bool, cases_eq, cases_lt, Decides.{Decides-eqb, not_from_Decides}}, List.get_or_default}}
use Rattle.std.proofs.{Common.{eqb, Bool, ◌≡◌, ◌⊎◌, ◌<◌, ◌≤◌, ◌+◌, ◌^◌, ℕ, List, get_or, All, Some, refl, sym, subst, ◌∙◌, inl, inr, arith}, lemmas.Map.Made.is_member-Decides}
use Rattle.desk_store_rows.specs.{RevisionSteps.{IsGiven, AreItsChunks, AddsRevision}, Steps.{chunks_more, one_revision_more}, Tidy.TidyWith, claim.Holders.IsHeld}
use Rattle.desk_store_rows.specs.{claim.{Keys.{Fits, named, part, chunk}, Lists.chunks_bytes, Rows.{KeyMap, Has, part_row}, Values.plan_bytes}, declared.value.Counters.Counters}
use Rattle.desk_store_rows.{specs.{claim.Tidy.{IsNext, IsNumbered, IsNamedBy, IsKnown, AreHoldings, Tidy}, declared.value.StoredPlan.StoredPlan}, proofs.Changes.cases_key}
use Rattle.desk_store_rows.proofs.{ListLaws.chunks_differ, NameRows.{part_at, part_within, part_says, part_chunks, part_among, numbers_named}, OneDesk.{row_number, row_revisions}}
use Rattle.desk_store_rows.proofs.{TidyParts.{PlansKept, ChunksKept, kept_of, tidy_at, numbered_moves, loads_stay}, TidyPlans.{row_says, number_says}}

-- whether a list has a number
pub contains_or_not : (numbers : List ℕ) (number : ℕ) → Contains numbers number ⊎ (Contains numbers number → ⊥)
contains_or_not numbers number =
    let decides = is_member-Decides {eq = eqb} Decides-eqb numbers number in
    elim (cases_Bool (is_member eqb numbers number)) [ inl is ↦ inl (decides.0 is) | inr none ↦ inr (not_from_Decides _ decides none) ]

both_or_not : {P Q : Type 0} → P ⊎ (P → ⊥) → Q ⊎ (Q → ⊥) → (P × Q) ⊎ (P × Q → ⊥)
both_or_not one other = search arith

-- whether the plan is this one, and its number is among them
pub held_or_not : (plan one : ℕ) (numbers : List ℕ) (number : ℕ) → ((plan ≡ one) × Contains numbers number) ⊎ ((plan ≡ one) × Contains numbers number → ⊥)
held_or_not plan one numbers number = both_or_not (cases_eq plan one) (contains_or_not numbers number)

-- whether a number of chunks was given
pub given_or_not : (next : Counters) (given number : ℕ) → IsGiven next given number ⊎ (IsGiven next given number → ⊥)
given_or_not next given number = search (arith, cases_lt)

module _ (m n : KeyMap) (new : Bool) (next : Counters) (given source : ℕ) (name : List ℕ) (p : StoredPlan) (numbers : List ℕ) (plans : PlansKept m next.plan) (kept : ChunksKept m next.chunk) (number_fits : p.number < 2 ^ 64) (few_revisions : p.revisions + 1 < 2 ^ 32) (room : next.chunk + given < 2 ^ 64) (has : Has m (named name) (plan_bytes p)) (its : AreItsChunks m next given source numbers) (adds : AddsRevision m n new next given name p numbers) where
  abbrev IsNew : ℕ → ℕ → Type 0
  IsNew plan revision = (plan ≡ p.number) × (revision ≡ p.revisions + 1)

  new_or_not : (plan revision : ℕ) → IsNew plan revision ⊎ (IsNew plan revision → ⊥)
  new_or_not plan revision = both_or_not (cases_eq plan p.number) (cases_eq revision (p.revisions + 1))

  -- ---- numbers of plans are as they were
  numbered : IsNumbered m name p.number
  numbered = record { plan = p; row = has; is = refl; fits = number_fits }

  numbered_now : IsNumbered n name p.number
  numbered_now = record { plan = one_revision_more p; row = adds.row; is = refl; fits = number_fits }

  was_numbered : (other : List ℕ) (number : ℕ) → IsNumbered n other number → IsNumbered m other number
  was_numbered other number there = elim (cases_key other name) [
    | inl same ↦ (let equal : p.number ≡ number = number_says n name (one_revision_more p) number number_fits adds.row (subst (λ o. IsNumbered n o number) same there) in
        subst (λ o. IsNumbered m o number) (sym same) (subst (λ k. IsNumbered m name k) equal numbered))
    | inr apart ↦ numbered_moves n m other number (sym (adds.others other apart)) there
  ]

  stays_numbered : (other : List ℕ) (number : ℕ) → IsNumbered m other number → IsNumbered n other number
  stays_numbered other number there = elim (cases_key other name) [
    | inl same ↦ search (arith, p.number, number_says, numbered_now)
    | inr apart ↦ numbered_moves m n other number (adds.others other apart) there
  ]

  stays_known : (plan : ℕ) → IsKnown m plan → IsKnown n plan
  stays_known plan (inl (other, there)) = inl (other, stays_numbered other plan there)
  stays_known plan (inr mark) = inr (adds.marks _ ∙ mark)

  -- ---- parts
  new_part : (plan revision index : ℕ) (value : List ℕ) → IsNew plan revision → Fits (part plan revision index) → Has n (part plan revision index) value → part_row 128 chunks_bytes numbers index ≡ Some value
  new_part plan revision index value is fits there = search (adds.parts index fits.2, is.0, is.1)

  each_fits : All (λ x. x < 2 ^ 64) numbers
  each_fits k d within =
      let x = get_or numbers k d in
      elim (its.own x ((k, within, get_or_default numbers k x d within))) [
        | inl old ↦ (let less = kept.below source x old in omega arith)
        | inr new ↦ (let less = new.1 in omega arith)
      ]

  counted_here : (q : StoredPlan) → q.number < 2 ^ 64 → q.revisions < 2 ^ 32 → Has n (named name) (plan_bytes q) → (revision index : ℕ) (value : List ℕ) → Fits (part q.number revision index) → Has n (part q.number revision index) value → (0 < revision) × (revision ≤ q.revisions)
  counted_here q fits small there revision index value part_fits row =
      let bytes : plan_bytes (one_revision_more p) ≡ plan_bytes q = row_says n name (one_revision_more p) q adds.row there in
      let same : p.number ≡ q.number = row_number (one_revision_more p) q number_fits fits bytes in
      let count : p.revisions + 1 ≡ q.revisions = row_revisions (one_revision_more p) q few_revisions small bytes in
      elim (new_or_not q.number revision) [
        | inl new ↦ (let last = new.1 in (omega arith, omega arith))
        | inr old ↦ (let here : Has m (part q.number revision index) value = sym (adds.other_parts q.number revision index part_fits old) ∙ row in
            let before = plans.counted name p number_fits (omega arith) has revision index value (subst (λ k. Fits (part k revision index)) (sym same) part_fits) (subst (λ k. Has m (part k revision index) value) (sym same) here) in
            let few = before.1 in
            (before.0, omega arith))
      ]

  plans_revised : PlansKept n next.plan
  plans_revised = record {
    below = λ other number there. plans.below other number (was_numbered other number there);
    marks_below = λ plan value fits there. plans.marks_below plan value fits (sym (adds.marks _) ∙ there);
    one = λ one other number there also. plans.one one other number (was_numbered one number there) (was_numbered other number also);
    gone = λ other number there. adds.marks _ ∙ plans.gone other number (was_numbered other number there);
    parts = λ plan revision index value fits there. elim (new_or_not plan revision) [
      | inl new ↦ inl (name, subst (λ k. IsNumbered n name k) (sym new.0) numbered_now)
      | inr old ↦ stays_known plan (plans.parts plan revision index value fits (sym (adds.other_parts plan revision index fits old) ∙ there))
    ];
    told = λ plan revision index value fits there. elim (new_or_not plan revision) [
      | inl new ↦ search (new_part plan revision index value new fits there, part_at numbers index, part_chunks, each_fits, part_within, part_says)
      | inr old ↦ plans.told plan revision index value fits (sym (adds.other_parts plan revision index fits old) ∙ there)
    ];
    counted = λ other q fits small there revision index value part_fits row. elim (cases_key other name) [
      | inl same ↦ counted_here q fits small (subst (λ o. Has n (named o) (plan_bytes q)) same there) revision index value part_fits row
      | inr apart ↦ (let before : Has m (named other) (plan_bytes q) = sym (adds.others other apart) ∙ there in elim (new_or_not q.number revision) [
        | inl new ↦ absurd (apart (plans.one other name p.number (record { plan = q; row = before; is = new.0; fits = number_fits }) numbered))
        | inr old ↦ plans.counted other q fits small before revision index value part_fits (sym (adds.other_parts q.number revision index part_fits old) ∙ row)
      ])
    ];
  }

  -- ---- chunks
  -- what a part names now is named by the new revision, or was named by the same plan
  came : (plan number : ℕ) → IsNamedBy n plan number → ((plan ≡ p.number) × Contains numbers number) ⊎ IsNamedBy m plan number
  came plan number is = elim (new_or_not plan is.revision) [
    | inl new ↦ (let row = new_part plan is.revision is.index (chunks_bytes is.numbers) new is.part_fits is.row in
        let within = part_within numbers is.index (chunks_bytes is.numbers) row in
        let same : is.numbers ≡ part_at numbers is.index = chunks_differ is.numbers (part_at numbers is.index) is.chunks (part_chunks numbers is.index each_fits within) (part_says numbers is.index (chunks_bytes is.numbers) row) in
        inl (new.0, part_among numbers is.index number within (subst (λ (l : List ℕ). Contains l number) same is.among)))
    | inr old ↦ (let row : Has m (part plan is.revision is.index) (chunks_bytes is.numbers) = sym (adds.other_parts plan is.revision is.index is.part_fits old) ∙ is.row in inr (search row))
  ]

  stays_named : (plan number : ℕ) → IsNamedBy m plan number → IsNamedBy n plan number
  stays_named plan number is =
      let kept_part = adds.other_parts plan is.revision is.index is.part_fits (λ new.
      let few = (plans.counted name p number_fits (omega arith) has is.revision is.index (chunks_bytes is.numbers) (subst (λ k. Fits (part k is.revision is.index)) new.0 is.part_fits)
      (subst (λ k. Has m (part k is.revision is.index) (chunks_bytes is.numbers)) new.0 is.row)).1 in
      let last = new.1 in
      absurd (omega arith)) in
      search (kept_part ∙ is.row)

  named_now : (number : ℕ) → Contains numbers number → IsNamedBy n p.number number
  named_now = numbers_named n p.number (p.revisions + 1) numbers number_fits few_revisions (record { few = its.few; each = each_fits; parts = adds.parts })

  chunks_revised : ChunksKept n (next.chunk + given)
  chunks_revised = record {
    below = λ plan number is. elim (came plan number is) [
      | inl new ↦ elim (its.own number new.1) [
        | inl own ↦ (let less = kept.below source number own in omega arith)
        | inr made ↦ made.1
      ]
      | inr old ↦ (let less = kept.below plan number old in omega arith)
    ];
    chunks = λ number index value fits there. elim (given_or_not next given number) [
      | inl is ↦ (p.number, named_now number (its.whole number is))
      | inr other ↦ (let before = kept.chunks number index value fits (sym (adds.other_chunks number index fits other) ∙ there) in (before.0, stays_named before.0 number before.1))
    ];
    pieces = λ number piece value fits there. elim (given_or_not next given number) [
      | inl is ↦ adds.pieces number piece value fits is there
      | inr other ↦ kept.pieces number piece value fits (sym (adds.other_chunks number piece fits other) ∙ there)
    ];
  }

  -- ---- holdings
  -- the plan holds what the revision names, and names what it holds
  holders_revised : AreHoldings m new → AreHoldings n new
  holders_revised holders = record {
    told = adds.told ∙ holders.told;
    held = λ plan number value fits there. elim (held_or_not plan p.number numbers number) [
      | inl is ↦ (adds.empty plan number value fits there, subst (λ k. IsNamedBy n k number) (sym is.0) (named_now number is.1))
      | inr old ↦ (let before = holders.held plan number value fits (sym (adds.other_holdings plan number fits old) ∙ there) in (before.0, stays_named plan number before.1))
    ];
    counted_by_holders = adds.counted_by_holders;
    hold = λ is_new other plan number there is. elim (held_or_not plan p.number numbers number) [
      | inl mine ↦ subst (λ k. IsHeld n k number) (sym mine.0) (adds.holdings is_new number mine.1)
      | inr apart ↦ elim (came plan number is) [
        | inl mine ↦ absurd (apart mine)
        | inr old ↦ (let less = kept.below plan number old in adds.other_holdings plan number (there.fits, omega arith) apart ∙ holders.hold is_new other plan number (was_numbered other plan there) old)
      ]
    ];
  }

pub revised_tidy : (m n : KeyMap) (tidy : Tidy m) (given source : ℕ) (name : List ℕ) (p : StoredPlan) (numbers : List ℕ) → p.number < 2 ^ 64 → p.revisions + 1 < 2 ^ 32 → tidy.next.chunk + given < 2 ^ 64
    → Has m (named name) (plan_bytes p) → AreItsChunks m tidy.next given source numbers → AddsRevision m n tidy.new tidy.next given name p numbers → TidyWith n (chunks_more tidy.next given) tidy.new
revised_tidy m n tidy given source name p numbers number_fits few room has its adds =
    let next = tidy.next in
    let kept = kept_of m tidy in
    let more = chunks_more next given in
    let is : IsNext n more = rw (← (sym adds.moved)) refl in
    tidy_at n more tidy.new is (record { plan_fits = tidy.fits.plan_fits; chunk_fits = room; load_fits = tidy.fits.load_fits }) (record {
      rows = adds.rows;
      plans = plans_revised m n tidy.new next given source name p numbers kept.plans kept.chunks number_fits few room has its adds;
      chunks = chunks_revised m n tidy.new next given source name p numbers kept.plans kept.chunks number_fits few room has its adds;
      loads = loads_stay m n next.load next.load (omega arith) adds.starts adds.seals adds.loads kept.loads;
      holders = holders_revised m n tidy.new next given source name p numbers kept.plans kept.chunks number_fits few room has its adds kept.holders;
    })
