-- Laws of the breaks of a plan.
use Rattle.std.specs.{List.Sorted.IsStrictlyIncreasing, Prelude.{◌≡◌, ℕ, ◌+◌, ◌≤◌, ◌++◌, List, Contains}}
use Rattle.{audit_contiguity.specs.{claim.Breaks.AreBreaks, declared.breaks.Break.Break}, desk_model.specs.claim.Geography.GeographyModel}

-- a plan's breaks are one list
abbrev pub BreaksAreOneList : Type 0
BreaksAreOneList = (g : GeographyModel) (plan : List ℕ) (first last : ℕ) (one other : List Break)
    → AreBreaks g plan first last one → AreBreaks g plan first last other → one ≡ other

-- the breaks of districts that follow one another are put together
abbrev pub BreaksFollow : Type 0
BreaksFollow =
    (g : GeographyModel) (plan : List ℕ) (first middle last : ℕ) (one other : List Break)
    → first ≤ middle + 1 → middle ≤ last → AreBreaks g plan first middle one
    → AreBreaks g plan (middle + 1) last other → AreBreaks g plan first last (one ++ other)

-- lists that rise and have the same members are one list
abbrev pub RisingListsAreOne : Type 0
RisingListsAreOne =
    (one other : List ℕ) → IsStrictlyIncreasing one → IsStrictlyIncreasing other → ((member : ℕ) → Contains one member → Contains other member)
    → ((member : ℕ) → Contains other member → Contains one member) → one ≡ other
