-- The geography in a store: the blocks and the pairs of one load, and the row that names that load.
use Rattle.std.specs.Prelude.{◌≡◌, ◌<◌, ◌+◌, ◌-◌, ◌^◌, ℕ, List, length, take, All, IfSome, Option, Some, None}
use Rattle.desk_model.specs.{claim.{Geography.GeographyModel, GeographyModels.IsGeographyModel}, declared.{block.BlockRow.BlockRow, geography.Pair.Pair}}
use Rattle.desk_store_rows.specs.claim.{Keys.{seal, block, pair}, Rows.{KeyMap, row_in, Has, Lacks, element_row}, Values.{seal_bytes, block_bytes, pair_bytes}}

-- the value of a pair of neighbours
abbrev pub neighbours_bytes : Pair → List ℕ
neighbours_bytes p = pair_bytes (p.first, p.second)

abbrev pub geography_rows : GeographyModel → ℕ
geography_rows g = length g.blocks + length g.pairs

-- the numbers of a block fit in its row
pub record IsBlockRow (b : BlockRow) : Type 0 where
  pub id_fits : b.id < 10 ^ 15
  pub city_fits : IfSome b.city (λ city. city < 2 ^ 32)
  pub people_fit : b.population < 2 ^ 32

-- A load's rows are the geography's blocks rising, then its pairs rising. Of these the first ones are there, so many, and no others.
pub record IsStaged (m : KeyMap) (load : ℕ) (g : GeographyModel) (done : ℕ) : Type 0 where
  pub fit : All IsBlockRow (take done g.blocks)
  pub blocks : (place : ℕ) → place < 2 ^ 32 → row_in m (block load place) ≡ element_row block_bytes (take done g.blocks) place
  pub pairs : (place : ℕ) → place < 2 ^ 32 → row_in m (pair load place) ≡ element_row neighbours_bytes (take (done - length g.blocks) g.pairs) place

-- the load that the seal names has all rows of the geography
pub record IsSealed (m : KeyMap) (load : ℕ) (g : GeographyModel) : Type 0 where
  pub sound : IsGeographyModel g
  pub load_fits : load < 2 ^ 64
  pub pairs_fit : length g.pairs < 2 ^ 32
  pub named : Has m seal (seal_bytes (record { load = load; blocks = length g.blocks; pairs = length g.pairs }))
  pub rows : IsStaged m load g (geography_rows g)

-- the geography of a store: none where no load is sealed, whatever is staged
abbrev pub IsGeography : KeyMap → Option GeographyModel → Type 0
IsGeography m None = Lacks m seal
IsGeography m (Some g) = (load : ℕ) × IsSealed m load g
