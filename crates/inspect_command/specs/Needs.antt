-- How much room commands would need, by the terms by which a clerk tells that a store is full.
use Rattle.std.specs.Prelude.{◌≡◌, ◌⊎◌, ◌↔◌, ◌<◌, ◌≤◌, ◌*◌, ◌-◌, ℕ, Bool, true, false, IsTrue, List, replicate, length, get_or, slice_set, Option, Some, None, IfSome}
use Rattle.desk_model.specs.{Ranges.{ranges_in, ranges_of}, claim.{Desk.Desk, Geography.GeographyModel, Room.{command_rows, revision_rows}}, declared.command.Command.Command}
use Rattle.{desk_model.specs.declared.{command.Command.TheVariants.Fork, ranges.CountyRange.CountyRange}, inspect_command.specs.declared.needs.{Need.Need, RowsNeeded.RowsNeeded}}
use Rattle.desk_store_catalogue.specs.Cutting.{AreForkRows, AreRevisionRows, changes_in}

-- Beside so many free pages and pages of the journal: the pages for so many rows, of which each writes 13 at most; that there are too
-- few of the ones or the others; how many free pages are missing, and how many are left.
pub record IsNeed (free journal rows : ℕ) (need : Need) : Type 0 where
  pub pages : need.pages ≡ 13 * rows
  pub full : IsTrue need.is_full ↔ ((free < 13 * rows) ⊎ (journal < 13 * rows))
  pub short : need.short ≡ 13 * rows - free
  pub left : need.left ≡ free - 13 * rows

-- each of so many counties changes
abbrev pub all_change : ℕ → List Bool
all_change counties = replicate counties true

-- that one alone changes
abbrev pub one_changes : ℕ → ℕ → List Bool
one_changes counties place = slice_set (replicate counties false) place true

-- no county has more blocks than that one
abbrev pub no_cut : CountyRange
no_cut = record { first = 0; count = 0 }

pub record IsLargest (ranges : List CountyRange) (place : ℕ) : Type 0 where
  pub there : place < length ranges
  pub most : (k : ℕ) → k < length ranges → (get_or ranges k no_cut).count ≤ (get_or ranges place no_cut).count

-- a command gives a plan a revision, by which these of the geography's counties change
pub record IsRevision (d : Desk) (c : Command) (changes : List Bool) : Type 0 where
  pub area : GeographyModel
  pub geography : d.geography ≡ Some area
  pub last : Option (List ℕ)
  pub new : List ℕ
  pub long : length new ≡ length area.blocks
  pub last_long : IfSome last (λ l. length l ≡ length area.blocks)
  pub rows : command_rows d c ≡ revision_rows area last new
  pub changes_are : changes_in last new (ranges_of area) ≡ changes

-- the rows of commands where the geography has these counties
pub record AreNeededBy (ranges : List CountyRange) (needed : RowsNeeded) : Type 0 where
  pub place : ℕ
  pub largest : IsLargest ranges place
  pub revision : AreRevisionRows ranges (all_change (length ranges)) needed.revision
  pub patch : AreRevisionRows ranges (one_changes (length ranges) place) needed.patch
  pub fork : AreForkRows (length ranges) needed.fork

-- The rows that commands write at a desk with this geography or none, which has so many counties: of a revision by which each county
-- changes, of one by which the largest county alone does, and of a fork. Without a geography there is
-- none of them, and no row.
pub record AreNeeded (area : Option GeographyModel) (needed : RowsNeeded) (counties : ℕ) : Type 0 where
  pub place : ℕ
  pub largest : (g : GeographyModel) → area ≡ Some g → IsLargest (ranges_of g) place
  pub counties_are : counties ≡ length (ranges_in area)
  pub none : area ≡ None → (needed.revision ≡ 0) × (needed.patch ≡ 0)
  pub revision : (d : Desk) (c : Command) → d.geography ≡ area → IsRevision d c (all_change counties) → command_rows d c ≡ needed.revision
  pub patch : (d : Desk) (c : Command) → d.geography ≡ area → IsRevision d c (one_changes counties place) → command_rows d c ≡ needed.patch
  pub fork : (d : Desk) (name : List ℕ) (from : List ℕ × ℕ) → d.geography ≡ area → command_rows d (Fork name from) ≡ needed.fork
