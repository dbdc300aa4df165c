-- From the pieces to the report.
use Rattle.std.{specs.{Borrow.Bor, Option.option_copied}, proofs.lemmas.Bool.{cases_lt, lt-ltb, ltb-true, false≢true, some_since, and_from, cases_Bool, eqb-true}}
use Rattle.std.proofs.Common.{rules, ◌≡◌, ℕ, IsTrue, List, [], length, get_or, filter, Option, Some, None, is_some, MatchOption, refl, ap, sym, ◌∙◌, inl, inr, arith, ◌-◌, ◌<◌, ◌≤◌, Bool, true, eqb, zero, suc, ◌∷◌, count_by, All, Contains, eq-eqb}
use Rattle.{std.proofs.lemmas.List.{length-map, Elements.{All-contains_itself, All-filter, filter_passes}, Sums.length-filter}, audit_contiguity.specs.declared.breaks.Break.Break}
use Rattle.{std.proofs.lemmas.List.FromFn.{length-map-range_with_len, get_or-range_with_len, length-range_with_len}, audit_contiguity.specs.claim.Breaks.{IsGap, AreBreaks}}
use Rattle.{audit_contiguity.specs.{claim.Paths.{IsIn, HoldsTogether}, declared.breaks.Gap.Gap}, audit_population.specs.claim.Clauses.{deviates, RangeBreaks, AreExtremes}}
use Rattle.{audit_population.specs.{claim.People.{people_in, populations_of, state_people, districts}, declared.deviations.Extremes.Extremes}, audit_report.specs.Pieces.ArePeople}
use Rattle.audit_report.specs.{Assembled.{is_listed, found_clauses}, claim.Report.{congress_of, IsRange, IsNesting}, declared.{clause.Clause.Clause, pieces.Pieces.Pieces}}
use Rattle.audit_report.specs.claim.Clauses.{is_house, is_congress, is_legislative, CongressBreaks, ContiguityBreaks, NestingBreaks, IsNamed, AreExactlyClauses}
use Rattle.{audit_report.specs.declared.clause.Clause.TheVariants.{Complete, Mean, Range, Congress, Contiguous, Nested}, desk_model.specs.claim.Companions.takes}
use Rattle.{desk_model.specs.{claim.Geography.GeographyModel, declared.{block.BlockRow.BlockRow, kind.Kind.Kind}}, audit_report.proofs.Naming.{named_none, named_more, named_all}}
use Rattle.desk_model.specs.declared.kind.Kind.TheVariants as kind

-- Counts and filters that aren't empty.
filter_at : (p : ℕ → Bool) (xs : List ℕ) (k : ℕ) → k < length xs → p (get_or xs k 0) ≡ true → 0 < length (filter p xs)
filter_at p [] k less passes = absurd (omega arith)
filter_at p (x ∷ xs) zero less passes = rw passes (omega arith)
filter_at p (x ∷ xs) (suc k) less passes = elim (cases_Bool (p x)) [ inl e ↦ rw e (omega arith) | inr e ↦ rw e (filter_at p xs k (omega arith) passes) ]

-- one is counted, so it is there
has_from_count : (xs : List ℕ) → 0 < count_by (λ d. eqb d 0) xs → Contains xs 0
has_from_count xs some =
    let less : 0 < length (filter (λ d. eqb d 0) xs) = omega (arith, length-filter (λ d. eqb d 0) xs) in
    rw (eqb-true _ 0 (filter_passes (λ d. eqb d 0) xs 0 0 less)) at (All-filter (λ d. eqb d 0) (Contains xs) xs (All-contains_itself xs) 0 0 less)

count_from_has : (xs : List ℕ) → Contains xs 0 → 0 < count_by (λ d. eqb d 0) xs
count_from_has xs has = omega (arith, length-filter (λ d. eqb d 0) xs, filter_at (λ d. eqb d 0) xs has.0 has.1 (eq-eqb _ 0 has.2))

-- a district that passes leaves the filtered districts not empty
filter_from_district : (p : ℕ → Bool) (n d : ℕ) → 1 ≤ d → d ≤ n → p d ≡ true → 0 < length (filter p (districts n))
filter_from_district p n d from to passes = search (arith, get_or-range_with_len 1 n (d - 1) 0 (omega arith), filter_at, length-range_with_len 1 n)

abbrev IsOneOf : ℕ → ℕ → Type 0
IsOneOf n d = (1 ≤ d) × (d ≤ n)

all_districts : (n : ℕ) → All (IsOneOf n) (districts n)
all_districts n k d less = search (rules, length-range_with_len, get_or-range_with_len)

-- the first of the filtered districts is a district and passes
first_filtered : (p : ℕ → Bool) (n : ℕ) → 0 < length (filter p (districts n)) → (d : ℕ) × IsOneOf n d × (p d ≡ true)
first_filtered p n some =
    (get_or (filter p (districts n)) 0 0, All-filter p (IsOneOf n) (districts n) (all_districts n) 0 0 some, filter_passes p (districts n) 0 0 some)

pub populations_long : (blocks : List BlockRow) (plan : List ℕ) (n : ℕ) (populations : List ℕ) → populations ≡ populations_of blocks plan n → length populations ≡ n
populations_long blocks plan n populations same = ap length same ∙ length-map-range_with_len (people_in blocks plan) 1 n

pub copied_same : {X : Type 0} (o : Option (Bor X)) → is_some (option_copied o) ≡ is_some o
copied_same None = refl
copied_same (Some x) = refl

extremes_from : (populations : List ℕ) (range : Option Extremes) → MatchOption range (¬ RangeBreaks populations) (AreExtremes populations) → IsTrue (is_some range) → RangeBreaks populations
extremes_from populations None is some = absurd (false≢true some)
extremes_from populations (Some e) is some = record { most = e.most; least = e.least; most_is = is.most.district; least_is = is.least.district; exceeds = is.exceeds }

range_told : (k : Kind) (populations : List ℕ) (range : Option Extremes) → IsRange k populations range
    → (IsTrue (is_some range) → IsTrue (is_legislative k) × RangeBreaks populations) × (IsTrue (is_legislative k) → RangeBreaks populations → IsTrue (is_some range))
range_told kind.Congress populations range is = (λ some. absurd (false≢true (ap is_some (sym is) ∙ some)), λ applies breaks. absurd (false≢true applies))
range_told _ populations range is =
    (λ some. (refl, extremes_from populations range is some), λ applies breaks. some_since range (¬ RangeBreaks populations) (AreExtremes populations) is (λ keeps. keeps breaks))

none_listed : {X : Type 0} (xs : List X) → xs ≡ [] → ¬ IsTrue (is_listed xs)
none_listed xs none listed = false≢true (ap is_listed (sym none) ∙ listed)

deviating_from : (populations : List ℕ) (total : ℕ) (listed : List ℕ) → listed ≡ filter (deviates populations total) (districts (length populations)) → IsTrue (is_listed listed)
    → CongressBreaks populations total
deviating_from populations total listed is some = search (rules, first_filtered, total, ltb-true)

congress_told : (k : Kind) (populations : List ℕ) (total : ℕ) (listed : List ℕ) → listed ≡ congress_of k populations total
    → (IsTrue (is_listed listed) → IsTrue (is_congress k) × CongressBreaks populations total) × (IsTrue (is_congress k) → CongressBreaks populations total → IsTrue (is_listed listed))
congress_told kind.Congress populations total listed is = (
  λ some. (refl, deviating_from populations total listed is some),
  λ applies breaks. search (arith, filter_from_district (deviates populations total) (length populations) breaks.district breaks.is.0 breaks.is.1 (lt-ltb _ _ breaks.deviates), lt-ltb),
)
congress_told _ populations total listed is = (λ some. absurd (none_listed listed is some), λ applies breaks. absurd (false≢true applies))

apart : (g : GeographyModel) (plan : List ℕ) (d : ℕ) (gap : Option Gap) → MatchOption gap ((a : ℕ) → ¬ IsIn plan d a) (IsGap g plan d) → ¬ HoldsTogether g.pairs plan d
apart g plan d None none holds = none holds.some.0 holds.some.1
apart g plan d (Some gap) is holds = is.apart.holds.apart (holds.joined is.from is.to is.least.holds is.apart.holds.lies)

none : Break
none = record { district = 0; gap = None }

contiguity_holds : (g : GeographyModel) (plan : List ℕ) (n : ℕ) (breaks : List Break) → AreBreaks g plan 1 n breaks → IsTrue (is_listed breaks) → ContiguityBreaks g n plan
contiguity_holds g plan n breaks are some =
    let first = get_or breaks 0 none in
    let is = are.broken 0 none (ltb-true 0 (length breaks) some) in
    record { district = first.district; from_first = is.from_first; to_last = is.to_last; broken = apart g plan first.district first.gap is.breaks }

contiguity_tells : (g : GeographyModel) (plan : List ℕ) (n : ℕ) (breaks : List Break) → AreBreaks g plan 1 n breaks → ContiguityBreaks g n plan → IsTrue (is_listed breaks)
contiguity_tells g plan n breaks are broken =
    lt-ltb 0 (length breaks) (elim (cases_lt 0 (length breaks)) [
      | inl some ↦ some
      | inr empty ↦ absurd (broken.broken (are.whole broken.district broken.from_first broken.to_last (λ has. omega (arith, has.1, length-map breaks (λ (b : Break). b.district)))))
    ])

nesting_told : (n : ℕ) (plan : List ℕ) (companion : Option (List ℕ)) (listed : List ℕ) → IsNesting n plan companion listed
    → (IsTrue (is_listed listed) → IsTrue (is_some companion) × MatchOption companion ⊥ (NestingBreaks n plan)) × (MatchOption companion ⊥ (NestingBreaks n plan) → IsTrue (is_listed listed))
nesting_told n plan None listed is = (λ some. absurd (none_listed listed is some), λ broken. absurd broken)
nesting_told n plan (Some c) listed is = (
  λ some. (refl, record { district = get_or listed 0 0; broken = is.listed 0 0 (ltb-true 0 (length listed) some) }),
  λ broken. let has = is.all broken.district broken.broken in lt-ltb 0 (length listed) (omega (arith, has.1)),
)

-- a plan that takes a senate plan beside it is a house plan
house_takes : (k : Kind) → IsTrue (takes kind.Senate k) → IsTrue (is_house k)
house_takes kind.Congress is = is
house_takes _ is = is

-- the clauses that the pieces found are those that apply and are broken
pub named : (g : GeographyModel) (k : Kind) (n : ℕ) (plan : List ℕ) (companion : Option (List ℕ)) (p : Pieces) → (IsTrue (is_some companion) → IsTrue (takes kind.Senate k)) → ArePeople g k n plan p.people
    → IsNesting n plan companion p.unnested.nesting.items → AreBreaks g plan 1 n p.contiguity.items → AreExactlyClauses (IsNamed g k n plan companion) (found_clauses p)
named g k n plan companion p of_house people nesting contiguity =
    named_all Holds (found_clauses p)
    (named_more Holds 5 _ (is_listed p.unnested.nesting.items) Nested refl
    (λ told. let is = (nesting_told n plan companion p.unnested.nesting.items nesting).0 told in
    record { applies_to = and_from (is_house k) (is_some companion) (house_takes k (of_house is.0)) is.0; broken = is.1 })
    (λ has. (nesting_told n plan companion p.unnested.nesting.items nesting).1 has.broken)
    (named_more Holds 4 _ (is_listed p.contiguity.items) Contiguous refl
    (λ told. record { applies_to = refl; broken = contiguity_holds g plan n p.contiguity.items contiguity told })
    (λ has. contiguity_tells g plan n p.contiguity.items contiguity has.broken)
    (named_more Holds 3 _ (is_listed p.people.congress.items) Congress refl
    (λ told. let is = (congress_told k pops total p.people.congress.items people.congress).0 told in record { applies_to = is.0; broken = is.1 })
    (λ has. (congress_told k pops total p.people.congress.items people.congress).1 has.applies_to has.broken)
    (named_more Holds 2 _ (is_some p.people.range) Range refl
    (λ told. let is = (range_told k pops p.people.range people.range).0 told in record { applies_to = is.0; broken = is.1 })
    (λ has. (range_told k pops p.people.range people.range).1 has.applies_to has.broken)
    (named_more Holds 1 _ p.people.mean_breaks Mean refl
    (λ told. record { applies_to = people.mean.applies told; broken = people.mean.breaks told })
    (λ has. people.mean.told_where has.applies_to has.broken)
    (named_more Holds 0 [] _ Complete refl
    (λ told. record { applies_to = refl; broken = has_from_count plan (omega (arith, people.unassigned, ltb-true 0 p.people.unassigned told)) })
    (λ has. lt-ltb 0 p.people.unassigned (omega (arith, people.unassigned, count_from_has plan has.broken)))
    (named_none Holds)))))))
  where
    Holds : Clause → Type 0
    Holds = IsNamed g k n plan companion

    pops : List ℕ
    pops = populations_of g.blocks plan n

    total : ℕ
    total = state_people g.blocks
