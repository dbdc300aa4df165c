-- The sample geography, four invented blocks two by two: a is north-west, b north-east, c south-west and d south-east.
use Rattle.std.specs.Prelude.{ℕ, [], ◌∷◌, Option, Some, None}
use Rattle.desk_model.specs.{claim.{Desk.Desk, Geography.GeographyModel}, declared.{block.BlockRow.BlockRow, geography.Pair.Pair}}
use Rattle.std.specs.FinMap as map_of

abbrev pub block_row : ℕ → Option ℕ → ℕ → BlockRow
block_row id city population = record { id = id; city = city; population = population }

abbrev pub pair_of : ℕ → ℕ → Pair
pair_of i j = record { first = i; second = j }

abbrev pub sample : GeographyModel
sample = record {
  blocks = block_row 190010001001001 (Some 100) 505 ∷ block_row 190010001001002 (Some 100) 505
      ∷ block_row 190030001001001 (Some 100) 495 ∷ block_row 190030001001002 None 495 ∷ [];
  pairs = pair_of 0 1 ∷ pair_of 0 2 ∷ pair_of 1 3 ∷ pair_of 2 3 ∷ [];
}

abbrev pub sample_desk : Desk
sample_desk = record { geography = Some sample; plans = map_of.empty }
