-- What the census files of a state come to: each file is read and judged in turn, and the first fault ends it.
use Rattle.std.specs.{Io.KnownBytes.Consumes, Prelude.{◌≡◌, ◌⊎◌, ℕ, ◌<◌, List, Result, Ok, Err, Vec}, declared.alloc.Global.Global}
use Rattle.{byte_stream.specs.claim.{Counts.counted, Reading.turn_limit}, desk_model.specs.declared.block.BlockRow.BlockRow, pl94_geo.specs.declared.geo.GeoFault.GeoFault}
use Rattle.pl94_geo.specs.{claim.GeoFile.{IsRead as IsHeaderRead, failures_after_file as failures_after_header}, declared.geo.GeoRows.GeoRows}
use Rattle.pl94_segment.specs.{claim.{Join.IsJoined, SegFile.{IsRead as IsSegmentRead, failures_after_file as failures_after_segment}}, declared.join.JoinFault.JoinFault}
use Rattle.pl94_segment.specs.{declared.record.SegmentNumber.{SegmentNumber, TheVariants.{One, Two, Three}}, declared.segment.{SegFault.SegFault, SegRows.SegRows}}
use Rattle.state_files.specs.{claim.Opening.{File, Opening, Census}, declared.{census.CensusFiles.CensusFiles, fault.{FileFault.FileFault, OpenFault.OpenFault}}}
use Rattle.state_files.specs.declared.fault.FileFault.TheVariants.{NoHeader, Header, NoSegment, Segment, Join}
use Rattle.pl94_geo.specs.declared.geo.GeoFault.TheVariants as geo
use Rattle.pl94_segment.specs.declared.segment.SegFault.TheVariants as segment

-- what a fault or a success of the header is among all files
abbrev pub header_outcome : Result GeoRows GeoFault → Result GeoRows FileFault
header_outcome (Ok rows) = Ok rows
header_outcome (Err fault) = Err (Header fault)

abbrev pub segment_outcome : SegmentNumber → Result SegRows SegFault → Result SegRows FileFault
segment_outcome part (Ok rows) = Ok rows
segment_outcome part (Err fault) = Err (Segment part fault)

abbrev pub join_outcome : Result (Vec BlockRow Global) JoinFault → Result (Vec BlockRow Global) FileFault
join_outcome (Ok rows) = Ok rows
join_outcome (Err fault) = Err (Join fault)

-- the file was asked as often as that is done
abbrev pub IsAtLimit : (before after : File) → Type 0
IsAtLimit before after = after.turns ≡ counted before.turns turn_limit

-- These bytes came from the header's file, and this is what they say. Its reader failed once more exactly where that is told,
-- and the turn limit is told at the limit alone.
abbrev pub IsHeaderOf : (before after : File) → Result GeoRows GeoFault → Type 0
IsHeaderOf before after read = (text : List ℕ) × Consumes before.unread after.unread text × IsHeaderRead text after.unread read
    × (after.failures ≡ failures_after_header before.failures read)
    × ((line : ℕ) → read ≡ Err (geo.TurnLimit line) → IsAtLimit before after)

abbrev pub ReadsHeader : (before after : Opening) → Result GeoRows FileFault → Type 0
ReadsHeader (Err fault) after outcome = (after ≡ Err fault) × (outcome ≡ Err (NoHeader fault))
ReadsHeader (Ok before) (Err fault) outcome = ⊥
ReadsHeader (Ok before) (Ok after) outcome = (read : Result GeoRows GeoFault) × IsHeaderOf before after read × (outcome ≡ header_outcome read)

-- the same of a segment
abbrev pub IsSegmentOf : SegmentNumber → (before after : File) → Result SegRows SegFault → Type 0
IsSegmentOf part before after read = (text : List ℕ) × Consumes before.unread after.unread text × IsSegmentRead part text after.unread read
    × (after.failures ≡ failures_after_segment before.failures read)
    × ((line : ℕ) → read ≡ Err (segment.TurnLimit line) → IsAtLimit before after)

abbrev pub ReadsSegment : SegmentNumber → (before after : Opening) → Result SegRows FileFault → Type 0
ReadsSegment part (Err fault) after outcome = (after ≡ Err fault) × (outcome ≡ Err (NoSegment part fault))
ReadsSegment part (Ok before) (Err fault) outcome = ⊥
ReadsSegment part (Ok before) (Ok after) outcome = (read : Result SegRows SegFault)
    × IsSegmentOf part before after read × (outcome ≡ segment_outcome part read)

-- the header and the segments together
abbrev pub Joins : GeoRows → SegRows → SegRows → SegRows → Result (Vec BlockRow Global) FileFault → Type 0
Joins header first second third outcome = (joined : Result (Vec BlockRow Global) JoinFault)
    × IsJoined header first second third joined × (outcome ≡ join_outcome joined)

-- the next step goes on from what this one gave; its fault ends all, and the files that come after it stay as they are
abbrev pub ThenReads : {A B : Type 0} → Result A FileFault → Type 0 → (A → Result B FileFault → Type 0) → Result B FileFault → Type 0
ThenReads (Ok value) kept next outcome = next value outcome
ThenReads (Err fault) kept next outcome = kept × (outcome ≡ Err fault)

abbrev pub Then : {A B : Type 0} → (Result A FileFault → Type 0) → Type 0 → (A → Result B FileFault → Type 0) → Result B FileFault → Type 0
Then {A} {B} step kept next outcome = (given : Result A FileFault) × step given × ThenReads given kept next outcome

-- no file comes after it
abbrev pub NoFile : Type 0
NoFile = Unit {0}

-- the files of a state, one after the other
abbrev pub ReadsState : (before after : Census) → Result (Vec BlockRow Global) FileFault → Type 0
ReadsState before after =
    Then (ReadsHeader before.header after.header) ((after.first ≡ before.first)
    × (after.second ≡ before.second) × (after.third ≡ before.third)) (λ rows.
    Then (ReadsSegment One before.first after.first) ((after.second ≡ before.second) × (after.third ≡ before.third)) (λ one.
    Then (ReadsSegment Two before.second after.second) (after.third ≡ before.third) (λ two.
    Then (ReadsSegment Three before.third after.third) NoFile (λ three. Joins rows one two three))))

-- Where the files are read at once by more than one worker: a file stands as it is left where they are read in turn; or it comes after
-- the first fault, where nothing of it is read in turn, and it may have been read all the same.
abbrev pub IsLeftBy : {R : Type 0} → ℕ → (before left after : Result R OpenFault) → Type 0
IsLeftBy workers before left after = (after ≡ left) ⊎ ((1 < workers) × (left ≡ before))

pub record AreLeftBy {R : Type 0} (workers : ℕ) (before left after : CensusFiles R) : Type 0 where
  pub header : after.geo ≡ left.geo
  pub first : IsLeftBy workers before.seg1 left.seg1 after.seg1
  pub second : IsLeftBy workers before.seg2 left.seg2 after.seg2
  pub third : IsLeftBy workers before.seg3 left.seg3 after.seg3
