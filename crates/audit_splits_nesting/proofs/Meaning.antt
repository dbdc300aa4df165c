-- What the marks of all blocks say.
use Rattle.std.{specs.List.Sorted.IsStrictlyIncreasing, proofs.Common.{◌≡◌, ℕ, ◌+◌, ◌<◌, inl, inr, List, All, Contains, length, sym, ◌∙◌, refl, arith, rules}}
use Rattle.{std.proofs.lemmas.{Bool.{cases_lt, cases_eq}, List.{get_or_past, Elements.All-weaker}}, audit_splits_nesting.specs.claim.Exactly.AreExactly}
use Rattle.audit_splits_nesting.specs.{Marks.{mark_at, value_at, one_part, IsSplit, IsMark, AreMarks, IsDividedAt, IsUnnested, IsUnnestedAt}, declared.mark.GroupMark.GroupMark}
use Rattle.audit_splits_nesting.specs.claim.{Divided.{county_at, IsInCity, AreDivided, IsDividedWithinCounty}, Nested.{IsIn, IsNested, BreaksNesting}}
use Rattle.{audit_splits_nesting.specs.declared.mark.GroupMark.TheVariants.{Unseen, Seen, Divided}, desk_model.specs.declared.block.BlockRow.BlockRow}

-- the numbers below count of which this holds are listed
pub record AreListed (Holds : ℕ → Type 0) (count : ℕ) (numbers : List ℕ) : Type 0 where
  pub rising : IsStrictlyIncreasing numbers
  pub below : All (λ x. x < count) numbers
  pub listed : All Holds numbers
  pub all : (number : ℕ) → number < count → Holds number → Contains numbers number

-- two facts that hold of the same numbers
exactly_same : (Holds Means : ℕ → Type 0) (numbers : List ℕ) → ((number : ℕ) → Holds number → Means number) → ((number : ℕ) → Means number → Holds number)
    → AreExactly Holds numbers → AreExactly Means numbers
exactly_same Holds Means numbers means holds was = search (rules, All-weaker)

-- a mark past the end isn't there
inside : (marks : List GroupMark) (k : ℕ) → IsDividedAt marks k → k < length marks
inside marks k is = search (rules, get_or_past, cases_lt)

pub divided_from_split : (Holds : ℕ → Type 0) (plan : List ℕ) → IsSplit Holds one_part (value_at plan) → AreDivided Holds plan
divided_from_split Holds plan split = search rules

pub split_from_divided : (Holds : ℕ → Type 0) (plan : List ℕ) → AreDivided Holds plan → IsSplit Holds one_part (value_at plan)
split_from_divided Holds plan divided = search rules

pub within_from_split : (blocks : List BlockRow) (plan : List ℕ) (city : ℕ) → IsSplit (IsInCity blocks city) (county_at blocks) (value_at plan) → IsDividedWithinCounty blocks plan city
within_from_split blocks plan city split = record { county = county_at blocks split.one; divided = search rules }

pub split_from_within : (blocks : List BlockRow) (plan : List ℕ) (city : ℕ) → IsDividedWithinCounty blocks plan city → IsSplit (IsInCity blocks city) (county_at blocks) (value_at plan)
split_from_within blocks plan city is = search rules

module _ (Holds : ℕ → ℕ → Type 0) (part value : ℕ → ℕ) {count wide : ℕ} {marks : List GroupMark} (are : AreMarks Holds part value count wide marks) where
  split_from_mark : (k : ℕ) → IsDividedAt marks k → IsSplit (Holds k) part value
  split_from_mark k is = search (rules, inside)

  mark_from_split : (k : ℕ) → k < wide → ((i : ℕ) → Holds k i → i < count) → IsSplit (Holds k) part value → IsDividedAt marks k
  mark_from_split k less within split = by_case (mark_at marks k) (are.each k less)
    where
      by_case : (m : GroupMark) → IsMark (Holds k) part value count m → m ≡ Divided
      by_case Unseen none = absurd (none split.one (within split.one split.one_holds) split.one_holds)
      by_case (Seen p v) whole = search rules
      by_case Divided had = refl

  -- the groups whose marks say that they are divided are those that are
  pub divided_are : (Means : ℕ → Type 0) {codes : List ℕ} → ((k : ℕ) → IsSplit (Holds k) part value → Means k) → ((k : ℕ) → Means k → IsSplit (Holds k) part value)
      → ((k i : ℕ) → Holds k i → (k < wide) × (i < count)) → AreExactly (IsDividedAt marks) codes → AreExactly Means codes
  divided_are Means {codes} to back inside exactly =
      exactly_same (IsDividedAt marks) Means codes (λ k is. to k (split_from_mark k is))
      (λ k is. let split = back k is in mark_from_split k (inside k split.one split.one_holds).0 (λ i holds. (inside k i holds).1) split) exactly

-- the mark of a district says whether it is nested
not_nested : (plan companion : List ℕ) (d : ℕ) (m : GroupMark) → IsMark (IsIn plan d) one_part (value_at companion) (length plan) m → IsUnnested m → ¬ IsNested plan companion d
not_nested plan companion d Unseen is unnested nested = unnested
not_nested plan companion d (Seen p v) is unnested nested = omega (arith, nested.assigned, nested.each is.place is.holds, is.value_is, unnested)
not_nested plan companion d Divided is unnested nested = is.differ (nested.each is.one is.one_holds ∙ sym (nested.each is.other is.other_holds))

unnested : (plan companion : List ℕ) (d : ℕ) (m : GroupMark) → IsMark (IsIn plan d) one_part (value_at companion) (length plan) m → ¬ IsNested plan companion d → IsUnnested m
unnested plan companion d Unseen is broken = broken (record { over = 1; assigned = omega arith; each = λ place lies. absurd (is place lies.within lies) })
unnested plan companion d (Seen p v) is broken = elim (cases_eq v 0) [
  | inl none ↦ none
  | inr some ↦ absurd (broken (record { over = v; assigned = omega (arith, some); each = λ place lies. is.whole place is.place lies.within is.early lies is.holds refl ∙ is.value_is }))
]
unnested plan companion d Divided is broken = tt

pub unnested_below : (marks : List GroupMark) (d : ℕ) → IsUnnested (mark_at marks d) → d < length marks
unnested_below marks d is = search (rules, get_or_past, cases_lt)

pub nesting_are : (n wide : ℕ) (plan companion : List ℕ) (marks : List GroupMark) (districts : List ℕ) → wide ≡ n + 1
    → AreMarks (IsIn plan) one_part (value_at companion) (length plan) wide marks → AreExactly (IsUnnestedAt marks) districts
    → AreExactly (BreaksNesting n plan companion) districts
nesting_are n wide plan companion marks districts size are exactly =
    exactly_same (IsUnnestedAt marks) (BreaksNesting n plan companion) districts
    (λ d is. let less = unnested_below marks d is.unnested in record {
      from_first = is.from_first;
      to_last = omega (arith, are.long, less, size);
      broken = not_nested plan companion d (mark_at marks d) (are.each d (omega (arith, are.long, less, size))) is.unnested;
    })
    (λ d is. record { from_first = is.from_first; unnested = unnested plan companion d (mark_at marks d) (are.each d (omega (arith, is.to_last, size))) is.broken })
    exactly
