-- A plan has one report.
use Rattle.std.proofs.{Common.{rules, ◌≡◌, ℕ, ◌<◌, List, [], ◌∷◌, length, map, get_or, Option, Some, None, MatchOption, Contains, refl, sym, ap, ◌∙◌}, lemmas.Bool.cases_lt}
use Rattle.{std.proofs.lemmas.List.{length-map, get_or-map, Elements.{All-contains, Contains-get_or}}, audit_contiguity.specs.Laws.{BreaksAreOneList, RisingListsAreOne}}
use Rattle.audit_population.specs.claim.{Clauses.{RangeBreaks, AreExtremes, IsFirstMostPopulous, IsFirstLeastPopulous}, People.populations_of}
use Rattle.{audit_population.specs.declared.deviations.Extremes.Extremes, audit_report.specs.{Laws.ReportIsOne, claim.Clauses.{rank, IsNamed, AreExactlyClauses}}}
use Rattle.{audit_report.specs.{claim.Report.{IsRange, IsNesting, IsDividedBy}, declared.clause.Clause.{Clause, TheVariants.Complete}}, desk_model.specs.declared.kind.Kind.Kind}
use Rattle.audit_splits_nesting.specs.claim.{Divided.{IsDividedCounty, IsDividedCity, IsDividedWithinCounty}, Exactly.AreExactly, Nested.BreaksNesting}
use Rattle.audit_report.proofs.Naming.{clause_at, at_rank}
use Rattle.desk_model.specs.declared.kind.Kind.TheVariants as kind

from_ranks : (xs : List Clause) → map clause_at (map rank xs) ≡ xs
from_ranks [] = refl
from_ranks (x ∷ xs) = rw (at_rank x, from_ranks xs) refl

ranked_too : (xs ys : List Clause) → ((c : Clause) → Contains xs c → Contains ys c) → (r : ℕ) → Contains (map rank xs) r → Contains (map rank ys) r
ranked_too xs ys to r has =
    let inside : has.0 < length xs = rw length-map at has.1 in
    let c = get_or xs has.0 Complete in
    let there = to c (Contains-get_or xs has.0 Complete inside) in
    let e : rank c ≡ r = sym (get_or-map rank xs has.0 Complete r inside) ∙ has.2 in
    (there.0, rw length-map there.1, get_or-map rank ys there.0 c r there.1 ∙ ap rank there.2 ∙ e)

clauses_same : (Holds : Clause → Type 0) (one other : List Clause) → RisingListsAreOne → AreExactlyClauses Holds one → AreExactlyClauses Holds other → one ≡ other
clauses_same Holds one other law are too =
    let ranks : map rank one ≡ map rank other = law (map rank one) (map rank other) are.rising too.rising
    (ranked_too one other (λ c has. too.all c (All-contains Holds one c are.listed has)))
    (ranked_too other one (λ c has. are.all c (All-contains Holds other c too.listed has))) in
    sym (from_ranks one) ∙ ap (map clause_at) ranks ∙ from_ranks other

numbers_same : (Holds : ℕ → Type 0) (one other : List ℕ) → RisingListsAreOne → AreExactly Holds one → AreExactly Holds other → one ≡ other
numbers_same Holds one other law are too = search (rules, All-contains)

most_same : (populations : List ℕ) (d e : ℕ) → IsFirstMostPopulous populations d → IsFirstMostPopulous populations e → d ≡ e
most_same populations d e one other = search (rules, cases_lt)

least_same : (populations : List ℕ) (d e : ℕ) → IsFirstLeastPopulous populations d → IsFirstLeastPopulous populations e → d ≡ e
least_same populations d e one other = search (rules, cases_lt)

extremes_same : (populations : List ℕ) (x y : Extremes) → AreExtremes populations x → AreExtremes populations y → x ≡ y
extremes_same populations x y one other = search (rules, most_same, least_same)

breaks_from : (populations : List ℕ) (e : Extremes) → AreExtremes populations e → RangeBreaks populations
breaks_from populations e is = record { most = e.most; least = e.least; most_is = is.most.district; least_is = is.least.district; exceeds = is.exceeds }

told_same : (populations : List ℕ) (one other : Option Extremes) → MatchOption one (¬ RangeBreaks populations) (AreExtremes populations)
    → MatchOption other (¬ RangeBreaks populations) (AreExtremes populations) → one ≡ other
told_same populations None None is too = refl
told_same populations None (Some y) none is = absurd (none (breaks_from populations y is))
told_same populations (Some x) None is none = absurd (none (breaks_from populations x is))
told_same populations (Some x) (Some y) is too = ap Some (extremes_same populations x y is too)

range_same : (k : Kind) (populations : List ℕ) (one other : Option Extremes) → IsRange k populations one → IsRange k populations other → one ≡ other
range_same kind.Congress populations one other is too = is ∙ sym too
range_same _ populations one other is too = told_same populations one other is too

nesting_same : (n : ℕ) (plan : List ℕ) (companion : Option (List ℕ)) (one other : List ℕ) → RisingListsAreOne → IsNesting n plan companion one → IsNesting n plan companion other
    → one ≡ other
nesting_same n plan None one other law is too = is ∙ sym too
nesting_same n plan (Some c) one other law is too = numbers_same (BreaksNesting n plan c) one other law is too

divided_same : (n : ℕ) (plan : List ℕ) (congress one other : Option (List ℕ)) → RisingListsAreOne → IsDividedBy n plan congress one → IsDividedBy n plan congress other → one ≡ other
divided_same n plan None one other law is too = is ∙ sym too
divided_same n plan (Some c) (Some one) (Some other) law is too = ap Some (numbers_same (BreaksNesting n plan c) one other law is too)
divided_same n plan (Some c) _ _ law is too = search rules

pub one_report : BreaksAreOneList → RisingListsAreOne → ReportIsOne
one_report breaks law g k n plan beside one other are too = λ i. record {
  broken = clauses_same (IsNamed g k n plan beside.senate) one.broken other.broken law are.broken too.broken i;
  cities = numbers_same (IsDividedCity g.blocks plan) one.cities other.cities law are.cities too.cities i;
  cities_in_county = numbers_same (IsDividedWithinCounty g.blocks plan) one.cities_in_county other.cities_in_county law are.cities_in_county too.cities_in_county i;
  congress = (are.congress ∙ sym too.congress) i;
  contiguity = breaks g plan 1 n one.contiguity other.contiguity are.contiguity too.contiguity i;
  counties = numbers_same (IsDividedCounty g.blocks plan) one.counties other.counties law are.counties too.counties i;
  districts = (are.districts ∙ sym too.districts) i;
  divided_by_congress = divided_same n plan beside.congress one.divided_by_congress other.divided_by_congress law are.divided_by_congress too.divided_by_congress i;
  kind = (are.kind_is ∙ sym too.kind_is) i;
  nesting = nesting_same n plan beside.senate one.nesting other.nesting law are.nesting too.nesting i;
  not_asked = (are.not_asked ∙ sym too.not_asked) i;
  population = (are.population ∙ sym too.population) i;
  populations = (are.populations ∙ sym too.populations) i;
  range = range_same k (populations_of g.blocks plan n) one.range other.range are.range too.range i;
  unassigned = (are.unassigned ∙ sym too.unassigned) i;
}
