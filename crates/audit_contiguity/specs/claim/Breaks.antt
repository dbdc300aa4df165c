-- What is told of the districts that don't hold together (Iowa Code 42.4(3)).
use Rattle.std.specs.{List.Sorted.IsStrictlyIncreasing, Prelude.{◌≡◌, ℕ, ◌≤◌, List, map, All, Contains, MatchOption}}
use Rattle.{audit_contiguity.specs.{claim.Paths.{IsIn, AreJoined, HoldsTogether}, declared.breaks.{Break.Break, Gap.Gap}}, desk_model.specs.claim.Geography.{GeographyModel, id_at}}

-- the least number of which this holds
pub record IsLeast (P : ℕ → Type 0) (a : ℕ) : Type 0 where
  pub holds : P a
  pub least : (b : ℕ) → P b → a ≤ b

-- the block lies in the district, and no path within the district joins it to the other
pub record IsApart (g : GeographyModel) (plan : List ℕ) (d from to : ℕ) : Type 0 where
  pub lies : IsIn plan d to
  pub apart : ¬ AreJoined g.pairs plan d from to

-- the numbers of the district's least block, and of the least of its blocks to which no path within the district leads from there
pub record IsGap (g : GeographyModel) (plan : List ℕ) (d : ℕ) (gap : Gap) : Type 0 where
  pub from : ℕ
  pub to : ℕ
  pub from_id : id_at g.blocks from ≡ gap.from
  pub to_id : id_at g.blocks to ≡ gap.to
  pub least : IsLeast (IsIn plan d) from
  pub apart : IsLeast (IsApart g plan d from) to

-- the district has a gap, or no block where none is told
abbrev pub IsBreak : GeographyModel → List ℕ → Break → Type 0
IsBreak g plan b = MatchOption b.gap ((a : ℕ) → ¬ IsIn plan b.district a) (IsGap g plan b.district)

-- a break of one of the districts from first to last
pub record IsBreakWithin (g : GeographyModel) (plan : List ℕ) (first last : ℕ) (b : Break) : Type 0 where
  pub from_first : first ≤ b.district
  pub to_last : b.district ≤ last
  pub breaks : IsBreak g plan b

abbrev pub districts_of : List Break → List ℕ
districts_of breaks = map (λ b. b.district) breaks

-- the breaks of the districts from first to last, rising: those that are listed are broken, and the others hold together
pub record AreBreaks (g : GeographyModel) (plan : List ℕ) (first last : ℕ) (breaks : List Break) : Type 0 where
  pub rising : IsStrictlyIncreasing (districts_of breaks)
  pub broken : All (IsBreakWithin g plan first last) breaks
  pub whole : (d : ℕ) → first ≤ d → d ≤ last → ¬ Contains (districts_of breaks) d → HoldsTogether g.pairs plan d
