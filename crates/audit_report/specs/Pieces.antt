-- What the pieces of the work found.
use Rattle.std.specs.Prelude.{◌≡◌, ℕ, Bool, IsTrue, List, option_map, is_some}
use Rattle.{audit_contiguity.specs.claim.Breaks.AreBreaks, audit_population.specs.claim.{Clauses.MeanBreaks, People.{populations_of, state_people}}}
use Rattle.audit_report.specs.claim.{Clauses.is_legislative, Figures.Figures, Report.{unassigned_of, congress_of, IsRange, IsNesting, IsDividedBy, IsReport}}
use Rattle.{audit_report.specs.declared.pieces.{People.People, Pieces.Pieces, Unnested.Unnested}, audit_splits_nesting.specs.Splits.AreDividedGroups}
use Rattle.desk_model.specs.{Companions.AreTaken, claim.Geography.GeographyModel, declared.{companions.Companions.Companions, kind.Kind.Kind}}

-- whether the clause of the mean applies and is broken
pub record IsMean (kind : Kind) (populations : List ℕ) (total : ℕ) (told : Bool) : Type 0 where
  pub applies : IsTrue told → IsTrue (is_legislative kind)
  pub breaks : IsTrue told → MeanBreaks populations total
  pub told_where : IsTrue (is_legislative kind) → MeanBreaks populations total → IsTrue told

pub record ArePeople (g : GeographyModel) (kind : Kind) (n : ℕ) (plan : List ℕ) (p : People) : Type 0 where
  pub unassigned : p.unassigned ≡ unassigned_of plan
  pub total : p.total ≡ state_people g.blocks
  pub populations : p.populations.items ≡ populations_of g.blocks plan n
  pub mean : IsMean kind (populations_of g.blocks plan n) (state_people g.blocks) p.mean_breaks
  pub range : IsRange kind (populations_of g.blocks plan n) p.range
  pub congress : p.congress.items ≡ congress_of kind (populations_of g.blocks plan n) (state_people g.blocks)

pub record AreUnnested (n : ℕ) (plan : List ℕ) (beside : Companions (List ℕ)) (u : Unnested) : Type 0 where
  pub nesting : IsNesting n plan beside.senate u.nesting.items
  pub divided_by_congress : IsDividedBy n plan beside.congress (option_map (λ v. v.items) u.divided_by_congress)

pub record ArePieces (g : GeographyModel) (kind : Kind) (n : ℕ) (plan : List ℕ) (beside : Companions (List ℕ)) (p : Pieces) : Type 0 where
  pub people : ArePeople g kind n plan p.people
  pub splits : AreDividedGroups g.blocks plan p.splits
  pub unnested : AreUnnested n plan beside p.unnested
  pub contiguity : AreBreaks g plan 1 n p.contiguity.items

-- the report of each plan of which these are the pieces
abbrev pub ReportsPieces : Kind → ℕ → Bool → Pieces → Figures → Type 0
ReportsPieces kind n with_senate p report =
    (g : GeographyModel) (plan : List ℕ) (beside : Companions (List ℕ))
    → with_senate ≡ is_some beside.senate → AreTaken kind beside → ArePieces g kind n plan beside p
    → IsReport g kind n plan beside report
