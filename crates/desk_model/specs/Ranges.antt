-- What no promise rests on, beside claim/Ranges.antt.
use Rattle.std.specs.{List.{concat, Sorted.IsStrictlyIncreasing}, Prelude.{◌≡◌, ℕ, ◌+◌, ◌<◌, List, [], ◌∷◌, map, length, get_or, All, Option, Some, None}}
use Rattle.desk_model.specs.claim.{Block.county_of, Geography.{GeographyModel, ids, ids_of}, GeographyModels.{AreBlocks, IsGeographyModel}, Ranges.{cut, runs, sizes}}
use Rattle.desk_model.specs.declared.{block.BlockRow.BlockRow, ranges.CountyRange.CountyRange}

-- parts of these sizes one after the other, from a place on
abbrev pub laid : ℕ → List ℕ → List CountyRange
laid first [] = []
laid first (n ∷ ns) = record { first = first; count = n } ∷ laid (first + n) ns

-- where each county's blocks begin, and how many they are
abbrev pub ranges_of : GeographyModel → List CountyRange
ranges_of g = laid 0 (sizes g)

-- the same of the blocks alone
abbrev pub ranges_of_blocks : List BlockRow → List CountyRange
ranges_of_blocks blocks = laid 0 (runs (map county_of (ids_of blocks)))

-- the counties of the geography that is there, none where there is none
abbrev pub ranges_in : Option GeographyModel → List CountyRange
ranges_in None = []
ranges_in (Some g) = ranges_of g

-- a state that can be loaded, and its counties
pub record HasCounties (g : GeographyModel) (ranges : List CountyRange) : Type 0 where
  pub sound : IsGeographyModel g
  pub counties : ranges ≡ ranges_of g

-- blocks of one county
pub record IsOneCounty (part : List ℕ) : Type 0 where
  pub some : 0 < length part
  pub same : All (λ id. county_of id ≡ county_of (get_or part 0 0)) part

abbrev pub first_county : List ℕ → ℕ
first_county part = county_of (get_or part 0 0)

-- the parts of a list beside the blocks are the list again, and their lengths are the counties'
pub record IsCut (g : GeographyModel) (xs : List ℕ) : Type 0 where
  pub whole : concat (cut g xs) ≡ xs
  pub lengths : map length (cut g xs) ≡ sizes g

-- each part of the blocks is of one county, and counties rise from part to part
pub record AreCounties (parts_of : List (List ℕ)) : Type 0 where
  pub one : All IsOneCounty parts_of
  pub rising : IsStrictlyIncreasing (map first_county parts_of)

abbrev pub ListsAreCut : Type 0
ListsAreCut = (g : GeographyModel) (xs : List ℕ) → length xs ≡ length g.blocks → IsCut g xs

abbrev pub RangesAreCounties : Type 0
RangesAreCounties = (g : GeographyModel) → AreBlocks g.blocks → AreCounties (cut g (ids g))
