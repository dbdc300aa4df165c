-- The counties of lists beside the blocks, by their places.
use Rattle.std.specs.Prelude.{◌≡◌, ◌⊎◌, ◌<◌, ◌≤◌, ◌+◌, ℕ, Bool, true, if◌then◌else◌, List, map, get_or, take, drop, All, Option, Some, None, length, IfSome}
use Rattle.desk_model.specs.{Ranges.ranges_of, claim.{Geography.GeographyModel, Ranges.sizes, Room.{rows_for, differs, revision_rows, fork_rows}}}
use Rattle.{desk_model.specs.declared.ranges.CountyRange.CountyRange, desk_store_catalogue.specs.declared.changes.Span.Span}

-- a county's part of a list beside the blocks
abbrev pub part : CountyRange → List ℕ → List ℕ
part c xs = take c.count (drop c.first xs)

-- each county's places are places of a list so long
abbrev pub AreWithin : ℕ → List CountyRange → Type 0
AreWithin n ranges = All (λ c. c.first + c.count ≤ n) ranges

-- a county changes where its districts differ from the last revision's, and where there is none
abbrev pub is_changed : Option (List ℕ) → List ℕ → CountyRange → Bool
is_changed None new c = true
is_changed (Some last) new c = differs (part c last, part c new)

-- the same of each county
abbrev pub changes_in : Option (List ℕ) → List ℕ → List CountyRange → List Bool
changes_in last new ranges = map (is_changed last new) ranges

-- outside of these places, from the first one up to an end, two lists are the same
abbrev pub StaysOutside : ℕ → ℕ → List ℕ → List ℕ → Type 0
StaysOutside first end last new = (k : ℕ) → (k < first) ⊎ (end ≤ k) → get_or new k 0 ≡ get_or last k 0

-- The new districts and the last ones, if there are any, are as long as is asked for, and outside of the span they are the same.
pub record AreComparable (IsLong : ℕ → Type 0) (last : Option (List ℕ)) (new : List ℕ) (span : Span) : Type 0 where
  pub last_long : IfSome last (λ l. IsLong (length l))
  pub new_long : IsLong (length new)
  pub stays : IfSome last (λ l. StaysOutside span.first span.end l new)

-- the rows of a county's districts and the two that tell who holds them, which are written where it changes
abbrev pub range_rows : Bool → CountyRange → ℕ
range_rows changes c = if changes then rows_for 512 c.count + 2 else 0

-- so many rows does a revision write, by the geography's counties and which of them change after the last one
abbrev pub AreRevisionRows : List CountyRange → List Bool → ℕ → Type 0
AreRevisionRows ranges changes rows =
    (g : GeographyModel) (last : Option (List ℕ)) (new : List ℕ) → ranges ≡ ranges_of g → changes ≡ changes_in last new ranges
    → length new ≡ length g.blocks → IfSome last (λ l. length l ≡ length g.blocks) → rows ≡ revision_rows g last new

-- so many rows does a fork write, where the geography has so many counties
abbrev pub AreForkRows : ℕ → ℕ → Type 0
AreForkRows counties rows = (g : GeographyModel) → counties ≡ length (sizes g) → rows ≡ fork_rows g
