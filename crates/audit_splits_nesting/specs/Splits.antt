-- The counties and cities that a plan divides, and the marks by which they are found.
use Rattle.std.specs.Prelude.{◌≡◌, ℕ, ◌<◌, ◌≤◌, ◌^◌, List, length}
use Rattle.audit_splits_nesting.specs.{Marks.{AreUnseen, AreMarks, one_part, value_at}, claim.Exactly.AreExactly, declared.mark.GroupMark.GroupMark}
use Rattle.audit_splits_nesting.specs.claim.Divided.{county_at, IsInCounty, IsInCity, IsDividedCounty, IsDividedCity, IsDividedWithinCounty}
use Rattle.{audit_splits_nesting.specs.declared.splits.DividedGroups.DividedGroups, desk_model.specs.{claim.GeographyModels.AreBlocks, declared.block.BlockRow.BlockRow}}

-- the codes of the cities of the first blocks are below this
pub record AreCodesBelow (blocks : List BlockRow) (count codes : ℕ) : Type 0 where
  pub few : codes ≤ 2 ^ 32
  pub above : (city place : ℕ) → place < count → IsInCity blocks city place → city < codes

-- no block of a plan was seen of any county or city, and the marks of cities, alone and by county, have a place for each code
pub record AreUnmarked (blocks : List BlockRow) (plan : List ℕ) (counties cities by_county : List GroupMark) : Type 0 where
  pub rows : AreBlocks blocks
  pub beside : length plan ≡ length blocks
  pub codes : AreCodesBelow blocks (length blocks) (length cities)
  pub no_counties : AreUnseen 1000 counties
  pub no_cities : AreUnseen (length cities) cities
  pub none_by_county : AreUnseen (length cities) by_county

-- the marks of the counties, of the cities, and of the cities with their counties for parts, by the first blocks
pub record AreGroupMarks (blocks : List BlockRow) (plan : List ℕ) (count codes : ℕ) (counties cities by_county : List GroupMark) : Type 0 where
  pub of_counties : AreMarks (IsInCounty blocks) one_part (value_at plan) count 1000 counties
  pub of_cities : AreMarks (IsInCity blocks) one_part (value_at plan) count codes cities
  pub of_both : AreMarks (IsInCity blocks) (county_at blocks) (value_at plan) count codes by_county

-- the counties that the plan divides, the cities, and the cities that it divides within a county
pub record AreDividedGroups (blocks : List BlockRow) (plan : List ℕ) (divided : DividedGroups) : Type 0 where
  pub counties : AreExactly (IsDividedCounty blocks plan) divided.counties.items
  pub cities : AreExactly (IsDividedCity blocks plan) divided.cities.items
  pub cities_in_county : AreExactly (IsDividedWithinCounty blocks plan) divided.cities_in_county.items
