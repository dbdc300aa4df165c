-- The counts of a state's blocks, and their text.
use Rattle.std.specs.{List.{flat_map, range_with_len}, Prelude.{ℕ, ◌==◌, Bool, nat_lt, if◌then◌else◌, List, [], ◌∷◌, ◌++◌, map, length, filter, sum_by, codes, decimal}}
use Rattle.{check_command.specs.declared.counts.CountyPeople.CountyPeople, desk_model.specs.{claim.{Block.county_of, Padded.padded_decimal}, declared.block.BlockRow.BlockRow}}

-- the blocks of a county, and their people
abbrev pub county_blocks : List BlockRow → ℕ → ℕ
county_blocks rows county = sum_by (λ b. if county_of b.id == county then 1 else 0) rows

abbrev pub county_people : List BlockRow → ℕ → ℕ
county_people rows county = sum_by (λ b. if county_of b.id == county then b.population else 0) rows

-- a county is there where it has a block
abbrev pub has_county : List BlockRow → ℕ → Bool
has_county rows county = nat_lt 0 (county_blocks rows county)

abbrev pub with_people : List BlockRow → ℕ → CountyPeople
with_people rows county = record { county = county; people = county_people rows county }

-- county codes are 000 to 999
unfoldable pub county_codes : ℕ
county_codes = 1000

-- a county, where it has so many blocks
abbrev pub if_there : (county blocks people : ℕ) → List CountyPeople
if_there county blocks people = if nat_lt 0 blocks then record { county = county; people = people } ∷ [] else []

-- of the first so many county codes, rising, with their people, those that are there
abbrev pub counties_to : List BlockRow → ℕ → List CountyPeople
counties_to rows n = filter (λ c. has_county rows c.county) (map (with_people rows) (range_with_len 0 n))

abbrev pub counties_of : List BlockRow → List CountyPeople
counties_of rows = counties_to rows county_codes

-- the people of the state
abbrev pub people_of : List BlockRow → ℕ
people_of rows = sum_by (λ b. b.population) rows

-- a line of a name and a number
abbrev pub number_line : List ℕ → ℕ → List ℕ
number_line name n = name ++ decimal n ++ codes "\n"

abbrev pub county_line : CountyPeople → List ℕ
county_line c = codes "county " ++ padded_decimal 3 c.county ++ codes " " ++ decimal c.people ++ codes "\n"

-- what is printed of a state
abbrev pub counts_text : List BlockRow → List ℕ
counts_text rows =
    number_line (codes "blocks ") (length rows)
    ++ number_line (codes "counties ") (length (counties_of rows))
    ++ number_line (codes "population ") (people_of rows)
    ++ flat_map county_line (counties_of rows)
