-- The header and the segments together: 2020 Census PL 94-171 summary file, joined by LOGRECNO.
use Rattle.{std.specs.{List.Sorted.IsPermutation, Option.{option_map, option_to_list}, declared.alloc.Global.Global}, desk_model.specs.claim.GeographyModels.AreBlocks}
use Rattle.std.specs.Prelude.{◌≡◌, ◌≢◌, ℕ, ◌<◌, ◌≤◌, ◌^◌, if◌then◌else◌, List, ◌++◌, map, sum_by, All, Contains, Option, Some, None, IsSome, IfSome, Result, Ok, Err, is_none, unwrap_or, ⊤, Vec}
use Rattle.{desk_model.specs.declared.block.BlockRow.BlockRow, pl94_geo.specs.declared.{geo.GeoRows.GeoRows, header.GeoBlock.GeoBlock}, pl94_segment.specs.claim.SegFile.people_of}
use Rattle.pl94_segment.specs.{declared.join.JoinFault.{JoinFault, TheVariants.{Missing, TooManyPeople, OtherTotal, Memory}}, declared.record.SegmentNumber.SegmentNumber}
use Rattle.pl94_segment.specs.{declared.record.SegmentNumber.TheVariants.{One, Two, Three}, declared.segment.SegRows.SegRows}

-- the record numbers of all taken records
abbrev pub taken_numbers : GeoRows → List ℕ
taken_numbers geo = map (λ b. b.number) geo.blocks.items ++ option_to_list geo.state_record

-- the least segment that lacks a record
abbrev pub lacking_part : SegRows → SegRows → SegRows → ℕ → Option SegmentNumber
lacking_part first second third n =
    if is_none (people_of first n) then Some One
    else if is_none (people_of second n) then Some Two
    else if is_none (people_of third n) then Some Three
    else None

-- no segment lacks one of the records
abbrev pub NoneMissing : SegRows → SegRows → SegRows → List ℕ → Type 0
NoneMissing first second third numbers = All (λ n. lacking_part first second third n ≡ None) numbers

-- this is the least of the records that some segment lacks, and the least segment that lacks it
pub record IsLeastMissing (first second third : SegRows) (numbers : List ℕ) (number : ℕ) (part : SegmentNumber) : Type 0 where
  pub taken : Contains numbers number
  pub lacks : lacking_part first second third number ≡ Some part
  pub least : All (λ n. IsSome (lacking_part first second third n) → number ≤ n) numbers

-- a block with its people
abbrev pub people_at_number : SegRows → ℕ → ℕ
people_at_number first n = unwrap_or (people_of first n) 0

abbrev pub row_of : SegRows → GeoBlock → BlockRow
row_of first b = record { id = b.id; city = b.city; population = people_at_number first b.number }

-- the blocks with their people, in the order of the header
abbrev pub rows_of : GeoRows → SegRows → List BlockRow
rows_of geo first = map (row_of first) geo.blocks.items

-- the people of all blocks
abbrev pub total_people : GeoRows → SegRows → ℕ
total_people geo first = sum_by (λ b. b.population) (rows_of geo first)

-- the people of the state record, where there is one
abbrev pub state_people_of : GeoRows → SegRows → Option ℕ
state_people_of geo first = option_map (people_at_number first) geo.state_record

-- the files go together, and these are the blocks with their people, rising by number
pub record AreJoined (geo : GeoRows) (first second third : SegRows) (rows : List BlockRow) : Type 0 where
  pub none_missing : NoneMissing first second third (taken_numbers geo)
  pub state : IfSome (state_people_of geo first) (λ s. s ≡ total_people geo first)
  pub same : IsPermutation (rows_of geo first) rows
  pub blocks : AreBlocks rows

-- no record is missing, but the blocks have more people than 32 bits hold
pub record HasTooManyPeople (geo : GeoRows) (first second third : SegRows) : Type 0 where
  pub none_missing : NoneMissing first second third (taken_numbers geo)
  pub many : 2 ^ 32 ≤ total_people geo first

-- no record is missing and the total fits, but the state record has another number of people
pub record HasOtherTotal (geo : GeoRows) (first second third : SegRows) (state total : ℕ) : Type 0 where
  pub none_missing : NoneMissing first second third (taken_numbers geo)
  pub few : total < 2 ^ 32
  pub total_is : total ≡ total_people geo first
  pub state_is : state_people_of geo first ≡ Some state
  pub differ : state ≢ total

-- what joining gives
abbrev pub IsJoined : GeoRows → SegRows → SegRows → SegRows → Result (Vec BlockRow Global) JoinFault → Type 0
IsJoined geo first second third (Ok rows) = AreJoined geo first second third rows.items
IsJoined geo first second third (Err (Missing number part)) = IsLeastMissing first second third (taken_numbers geo) number part
IsJoined geo first second third (Err TooManyPeople) = HasTooManyPeople geo first second third
IsJoined geo first second third (Err (OtherTotal state total)) = HasOtherTotal geo first second third state total
IsJoined geo first second third (Err Memory) = ⊤
