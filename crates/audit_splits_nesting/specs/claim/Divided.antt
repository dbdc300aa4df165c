-- Counties and cities that are divided (Iowa Code 42.4(2)). Blocks are told by their places; a plan has the district of each block beside
-- it, where 0 is none.
use Rattle.std.specs.Prelude.{◌≡◌, ◌≢◌, ℕ, ◌<◌, List, map, length, get_or, Option, Some, None}
use Rattle.desk_model.specs.{claim.{Block.county_of, Geography.id_at}, declared.block.BlockRow.BlockRow}

-- the county of the block at a place
abbrev pub county_at : List BlockRow → ℕ → ℕ
county_at blocks place = county_of (id_at blocks place)

-- the block lies in the county
pub record IsInCounty (blocks : List BlockRow) (county place : ℕ) : Type 0 where
  pub within : place < length blocks
  pub county_is : county_at blocks place ≡ county

-- the city of the block at a place, if it lies in one
abbrev pub city_at : List BlockRow → ℕ → Option ℕ
city_at blocks place = get_or (map (λ b. b.city) blocks) place None

-- the block lies in the city
pub record IsInCity (blocks : List BlockRow) (city place : ℕ) : Type 0 where
  pub within : place < length blocks
  pub city_is : city_at blocks place ≡ Some city

-- the block lies in both
pub record IsInCityAndCounty (blocks : List BlockRow) (city county place : ℕ) : Type 0 where
  pub in_city : IsInCity blocks city place
  pub in_county : IsInCounty blocks county place

-- two of these blocks have different values, 0 included
pub record AreDivided (Holds : ℕ → Type 0) (plan : List ℕ) : Type 0 where
  pub one : ℕ
  pub other : ℕ
  pub one_holds : Holds one
  pub other_holds : Holds other
  pub differ : get_or plan one 0 ≢ get_or plan other 0

abbrev pub IsDividedCounty : List BlockRow → List ℕ → ℕ → Type 0
IsDividedCounty blocks plan county = AreDivided (IsInCounty blocks county) plan

abbrev pub IsDividedCity : List BlockRow → List ℕ → ℕ → Type 0
IsDividedCity blocks plan city = AreDivided (IsInCity blocks city) plan

-- the city is divided within some county: two blocks of both have different values
pub record IsDividedWithinCounty (blocks : List BlockRow) (plan : List ℕ) (city : ℕ) : Type 0 where
  pub county : ℕ
  pub divided : AreDivided (IsInCityAndCounty blocks city county) plan
