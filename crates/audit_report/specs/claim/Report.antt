-- The report of a plan of n districts. A plan has the district of each block beside it, where 0 is none; so has each of its companions, a
-- senate plan and one for the congress, if there is one.
use Rattle.std.specs.Prelude.{◌≡◌, ℕ, ◌==◌, ◌&&◌, not, if◌then◌else◌, Bool, List, [], ◌∷◌, count_by, Option, Some, None, is_some, MatchOption, MatchBool}
use Rattle.{audit_contiguity.specs.claim.Breaks.AreBreaks, audit_population.specs.claim.Clauses.{RangeBreaks, AreExtremes, deviating_districts}}
use Rattle.{audit_population.specs.{claim.People.{populations_of, state_people}, declared.deviations.Extremes.Extremes}, audit_report.specs.claim.Figures.Figures}
use Rattle.audit_report.specs.{claim.Clauses.{is_congress, is_house, IsNamed, AreExactlyClauses}, declared.clause.Clause.{Clause, TheVariants.Nested}}
use Rattle.audit_splits_nesting.specs.claim.{Divided.{IsDividedCounty, IsDividedCity, IsDividedWithinCounty}, Exactly.AreExactly, Nested.BreaksNesting}
use Rattle.desk_model.specs.{claim.Geography.GeographyModel, declared.{companions.Companions.Companions, kind.Kind.Kind}}

-- the unassigned blocks
abbrev pub unassigned_of : List ℕ → ℕ
unassigned_of plan = count_by (λ d. d == 0) plan

-- the districts that 42.4(1)b is broken by, none where it doesn't apply
abbrev pub congress_of : Kind → List ℕ → ℕ → List ℕ
congress_of kind populations total = if is_congress kind then deviating_districts populations total else []

-- they are told where 42.4(1)a applies and its range is broken
abbrev pub IsRange : Kind → List ℕ → Option Extremes → Type 0
IsRange kind populations range = MatchBool (is_congress kind) (range ≡ None) (MatchOption range (¬ RangeBreaks populations) (AreExtremes populations))

-- the house districts that aren't nested in the senate plan, none where there is no such plan
abbrev pub IsNesting : ℕ → List ℕ → Option (List ℕ) → List ℕ → Type 0
IsNesting n plan companion nesting = MatchOption companion (nesting ≡ []) (λ c. AreExactly (BreaksNesting n plan c) nesting)

-- the districts that the plan for the congress divides: those that don't lie in one of its districts; nothing is told where there is no
-- such plan
abbrev pub IsDividedBy : ℕ → List ℕ → Option (List ℕ) → Option (List ℕ) → Type 0
IsDividedBy n plan None told = told ≡ None
IsDividedBy n plan (Some congress) None = ⊥
IsDividedBy n plan (Some congress) (Some districts) = AreExactly (BreaksNesting n plan congress) districts

-- 42.4(6) isn't asked of a house plan with no senate plan beside it
abbrev pub not_asked_of : Kind → Bool → List Clause
not_asked_of kind with_senate = if is_house kind && not with_senate then Nested ∷ [] else []

pub record IsReport (g : GeographyModel) (kind : Kind) (n : ℕ) (plan : List ℕ) (beside : Companions (List ℕ)) (report : Figures) : Type 0 where
  pub broken : AreExactlyClauses (IsNamed g kind n plan beside.senate) report.broken
  pub cities : AreExactly (IsDividedCity g.blocks plan) report.cities
  pub cities_in_county : AreExactly (IsDividedWithinCounty g.blocks plan) report.cities_in_county
  pub congress : report.congress ≡ congress_of kind (populations_of g.blocks plan n) (state_people g.blocks)
  pub contiguity : AreBreaks g plan 1 n report.contiguity
  pub counties : AreExactly (IsDividedCounty g.blocks plan) report.counties
  pub districts : report.districts ≡ n
  pub divided_by_congress : IsDividedBy n plan beside.congress report.divided_by_congress
  pub kind_is : report.kind ≡ kind
  pub nesting : IsNesting n plan beside.senate report.nesting
  pub not_asked : report.not_asked ≡ not_asked_of kind (is_some beside.senate)
  pub population : report.population ≡ state_people g.blocks
  pub populations : report.populations ≡ populations_of g.blocks plan n
  pub range : IsRange kind (populations_of g.blocks plan n) report.range
  pub unassigned : report.unassigned ≡ unassigned_of plan
