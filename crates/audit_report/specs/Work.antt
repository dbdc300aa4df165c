-- An audit's work in numbered pieces.
use Rattle.std.specs.Prelude.{◌≡◌, ℕ, ◌+◌, ◌-◌, ◌*◌, ◌<◌, ◌≤◌, min, List, [], Bool}
use Rattle.{audit_contiguity.specs.{Parts.Shown, claim.Breaks.AreBreaks, declared.breaks.Break.Break}, audit_report.specs.Pieces.{ArePeople, AreUnnested, ArePieces}}
use Rattle.{audit_report.specs.declared.{pieces.Pieces.Pieces, work.Found.Found}, audit_splits_nesting.specs.Splits.AreDividedGroups, desk_model.specs.declared.kind.Kind.Kind}
use Rattle.desk_model.specs.{claim.Geography.GeographyModel, declared.companions.Companions.Companions}
use Rattle.audit_report.specs.declared.work.Found.TheVariants as found

-- a plan of count districts, with what it is judged by
pub record Audit : Type 0 where
  pub geography : GeographyModel
  pub kind : Kind
  pub count : ℕ
  pub plan : List ℕ
  pub beside : Companions (List ℕ)

-- the pieces 0, 1 and 2, and one for each sixteen districts, the last fewer
abbrev pub IsPieceOf : ℕ → ℕ → Type 0
IsPieceOf count piece = 16 * (piece - 3) < count

-- piece 0 is the people and what breaks the clauses on them, 1 the divided counties and cities, 2 the nesting in each companion, 3 + part
-- the contiguity of a part
abbrev pub IsFound : Audit → ℕ → Found → Type 0
IsFound a piece (found.People x) = (piece ≡ 0) × ArePeople a.geography a.kind a.count a.plan x
IsFound a piece (found.Splits x) = (piece ≡ 1) × AreDividedGroups a.geography.blocks a.plan x
IsFound a piece (found.Nesting x) = (piece ≡ 2) × AreUnnested a.count a.plan a.beside x
IsFound a piece (found.Breaks x) = (3 ≤ piece) × AreBreaks a.geography a.plan (16 * (piece - 3) + 1) (min (16 * (piece - 3) + 16) a.count) x.items

-- these are all pieces
abbrev pub ArePiecesOf : Audit → Pieces → Type 0
ArePiecesOf a p = ArePieces a.geography a.kind a.count a.plan a.beside p

-- the breaks that a piece found
abbrev pub breaks_in : Found → List Break
breaks_in (found.People x) = []
breaks_in (found.Splits x) = []
breaks_in (found.Nesting x) = []
breaks_in (found.Breaks x) = x.items

-- the audit's plan with the parts that are own
abbrev pub shown_of : Audit → List Bool → Shown
shown_of a own = record { geography = a.geography; plan = a.plan; count = a.count; own = own }
