-- When the lines of a geographic header are good: each taken record against those before it.
use Rattle.{std.specs.{List.{list_any, filter_map}, Option.option_map}, byte_stream.specs.claim.Judged.Judge, desk_model.specs.claim.GeographyModels.block_limit}
use Rattle.std.specs.Prelude.{ℕ, Bool, not, if◌then◌else◌, ◌==◌, nat_le, nat_eq, List, [], ◌∷◌, map, length, Option, Some, None, Result, Ok, Err, is_some, is_none}
use Rattle.pl94_geo.specs.{claim.Entries.line_read, declared.{entry.{GeoRecord.GeoRecord, HeaderLineFault.HeaderLineFault}, header.GeoBlock.GeoBlock}}
use Rattle.pl94_geo.specs.declared.entry.HeaderLineFault.TheVariants.{State, RepeatedBlock, RepeatedRecord, TooManyBlocks}

-- the states, the record numbers and the blocks' numbers of taken records
abbrev pub states_of : List GeoRecord → List ℕ
states_of es = map (λ e. e.state) es

abbrev pub numbers_of : List GeoRecord → List ℕ
numbers_of es = map (λ e. e.number) es

abbrev pub ids_of : List GeoRecord → List ℕ
ids_of es = filter_map (λ e. e.block) es

-- a block with its record number and its city
abbrev pub geo_block : GeoRecord → Option GeoBlock
geo_block e = option_map (λ id. record { number = e.number; id = id; city = e.city }) e.block

abbrev pub blocks_of : List GeoRecord → List GeoBlock
blocks_of es = filter_map geo_block es

-- the record number of the first state record
abbrev pub state_record_of : List GeoRecord → Option ℕ
state_record_of [] = None
state_record_of (e ∷ es) = if is_none e.block then Some e.number else state_record_of es

-- some record is of another state
abbrev pub other_state : List GeoRecord → ℕ → Bool
other_state es state = list_any (λ s. not (s == state)) (states_of es)

-- one of the numbers is this one
abbrev pub repeats : List ℕ → ℕ → Bool
repeats numbers n = list_any (nat_eq n) numbers

abbrev pub repeated_record : List GeoRecord → ℕ → Option HeaderLineFault
repeated_record es number = if repeats (numbers_of es) number then Some RepeatedRecord else None

abbrev pub block_conflict : List GeoRecord → ℕ → ℕ → Option HeaderLineFault
block_conflict es number id =
    if repeats (ids_of es) id then Some RepeatedBlock
    else if repeats (numbers_of es) number then Some RepeatedRecord
    else if nat_le block_limit (length (ids_of es)) then Some TooManyBlocks
    else None

abbrev pub state_conflict : List GeoRecord → ℕ → Option HeaderLineFault
state_conflict es number = if is_some (state_record_of es) then Some State else repeated_record es number

abbrev pub kind_conflict : List GeoRecord → ℕ → Option ℕ → Option HeaderLineFault
kind_conflict es number None = state_conflict es number
kind_conflict es number (Some id) = block_conflict es number id

-- how a taken record goes against those before it
abbrev pub conflict : List GeoRecord → GeoRecord → Option HeaderLineFault
conflict es e = if other_state es e.state then Some State else kind_conflict es e.number e.block

-- the record of a line, where it is taken
abbrev pub taken_entry : Result (Option GeoRecord) HeaderLineFault → Option GeoRecord
taken_entry (Ok e) = e
taken_entry (Err f) = None

abbrev pub entry_of : List ℕ → Option GeoRecord
entry_of line = taken_entry (line_read line)

-- the taken records of the lines
abbrev pub entries : List (List ℕ) → List GeoRecord
entries ls = filter_map entry_of ls

abbrev pub judged : List GeoRecord → Result (Option GeoRecord) HeaderLineFault → Option HeaderLineFault
judged es (Err f) = Some f
judged es (Ok None) = None
judged es (Ok (Some e)) = conflict es e

-- the fault of a line, given the lines before it
abbrev pub judge : Judge HeaderLineFault
judge before line = judged (entries before) (line_read line)
