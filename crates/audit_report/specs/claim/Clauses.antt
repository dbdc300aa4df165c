-- The clauses of a report: their names, which of them apply to a kind of plan, and where each is broken (Iowa Code 42.4).
use Rattle.{std.specs.List.Sorted.IsStrictlyIncreasing, audit_contiguity.specs.claim.Paths.HoldsTogether, audit_population.specs.claim.People.{populations_of, state_people}}
use Rattle.std.specs.Prelude.{◌*◌, ◌<◌, ◌≤◌, ℕ, Bool, true, false, ◌&&◌, IsTrue, List, map, length, Option, is_some, MatchOption, All, Contains, codes}
use Rattle.{audit_population.specs.claim.Clauses.{deviation, MeanBreaks, RangeBreaks, IsDistrict, population_of}, audit_report.specs.declared.clause.Clause.Clause}
use Rattle.{audit_report.specs.declared.clause.Clause.TheVariants.{Complete, Mean, Range, Congress, Contiguous, Nested}, audit_splits_nesting.specs.claim.Nested.BreaksNesting}
use Rattle.desk_model.specs.{claim.Geography.GeographyModel, declared.kind.Kind.Kind}
use Rattle.desk_model.specs.declared.kind.Kind.TheVariants as kind

-- a clause's place in the order of a report
abbrev pub rank : Clause → ℕ
rank Complete = 0
rank Mean = 1
rank Range = 2
rank Congress = 3
rank Contiguous = 4
rank Nested = 5

abbrev pub clause_name : Clause → List ℕ
clause_name Complete = codes "desk.complete"
clause_name Mean = codes "42.4.1.a.mean"
clause_name Range = codes "42.4.1.a.range"
clause_name Congress = codes "42.4.1.b"
clause_name Contiguous = codes "42.4.3"
clause_name Nested = codes "42.4.6"

abbrev pub is_congress : Kind → Bool
is_congress kind.Congress = true
is_congress kind.Senate = false
is_congress kind.House = false

abbrev pub is_house : Kind → Bool
is_house kind.Congress = false
is_house kind.Senate = false
is_house kind.House = true

-- a plan of the general assembly, 42.4(1)a
abbrev pub is_legislative : Kind → Bool
is_legislative kind.Congress = false
is_legislative kind.Senate = true
is_legislative kind.House = true

-- the clause applies to plans of the kind, with a companion or with none
abbrev pub applies : Kind → Option (List ℕ) → Clause → Bool
applies k companion Complete = true
applies k companion Mean = is_legislative k
applies k companion Range = is_legislative k
applies k companion Congress = is_congress k
applies k companion Contiguous = true
applies k companion Nested = is_house k && is_some companion

-- 42.4(1)b: some district deviates from the ideal by more than one percent
pub record CongressBreaks (populations : List ℕ) (total : ℕ) : Type 0 where
  pub district : ℕ
  pub is : IsDistrict populations district
  pub deviates : total < 100 * deviation (length populations) total (population_of populations district)

-- 42.4(3): one of the districts 1 to n doesn't hold together
pub record ContiguityBreaks (g : GeographyModel) (n : ℕ) (plan : List ℕ) : Type 0 where
  pub district : ℕ
  pub from_first : 1 ≤ district
  pub to_last : district ≤ n
  pub broken : ¬ HoldsTogether g.pairs plan district

-- 42.4(6): one of the districts 1 to n isn't nested
pub record NestingBreaks (n : ℕ) (plan companion : List ℕ) : Type 0 where
  pub district : ℕ
  pub broken : BreaksNesting n plan companion district

-- a plan of n districts breaks the clause
abbrev pub IsBroken : GeographyModel → ℕ → List ℕ → Option (List ℕ) → Clause → Type 0
IsBroken g n plan companion Complete = Contains plan 0
IsBroken g n plan companion Mean = MeanBreaks (populations_of g.blocks plan n) (state_people g.blocks)
IsBroken g n plan companion Range = RangeBreaks (populations_of g.blocks plan n)
IsBroken g n plan companion Congress = CongressBreaks (populations_of g.blocks plan n) (state_people g.blocks)
IsBroken g n plan companion Contiguous = ContiguityBreaks g n plan
IsBroken g n plan companion Nested = MatchOption companion ⊥ (NestingBreaks n plan)

-- the clause applies and is broken
pub record IsNamed (g : GeographyModel) (k : Kind) (n : ℕ) (plan : List ℕ) (companion : Option (List ℕ)) (clause : Clause) : Type 0 where
  pub applies_to : IsTrue (applies k companion clause)
  pub broken : IsBroken g n plan companion clause

-- the clauses of which this holds, in their order: it holds of each that is listed, and each of which it holds is listed
pub record AreExactlyClauses (Holds : Clause → Type 0) (clauses : List Clause) : Type 0 where
  pub rising : IsStrictlyIncreasing (map rank clauses)
  pub listed : All Holds clauses
  pub all : (clause : Clause) → Holds clause → Contains clauses clause
