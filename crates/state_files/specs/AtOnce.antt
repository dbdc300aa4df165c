-- The census files of a state read at once, and judged in their order.
use Rattle.std.specs.{Prelude.{ℕ, ◌<◌, Result, Vec}, declared.alloc.Global.Global}
use Rattle.{byte_stream.specs.declared.source.Source.Ghosts, desk_model.specs.declared.block.BlockRow.BlockRow, pl94_geo.specs.declared.geo.GeoRows.GeoRows}
use Rattle.pl94_segment.specs.{declared.record.SegmentNumber.{SegmentNumber, TheVariants.{One, Two, Three}}, declared.segment.SegRows.SegRows}
use Rattle.state_files.specs.claim.{Opening.{opening_of, census_of}, State.{ThenReads, NoFile, ReadsHeader, ReadsSegment, Joins, ReadsState, AreLeftBy}}
use Rattle.state_files.specs.declared.{census.CensusFiles.CensusFiles, fault.{FileFault.FileFault, OpenFault.OpenFault}}

abbrev pub ReadsHeaderFile : {R : Type 0} → Ghosts R → (before after : Result R OpenFault) → Result GeoRows FileFault → Type 0
ReadsHeaderFile r before after =
    ReadsHeader (opening_of r.remaining r.turns r.failures before) (opening_of r.remaining r.turns r.failures after)

abbrev pub ReadsSegmentFile : {R : Type 0} → Ghosts R → SegmentNumber → (before after : Result R OpenFault) → Result SegRows FileFault → Type 0
ReadsSegmentFile r part before after =
    ReadsSegment part (opening_of r.remaining r.turns r.failures before) (opening_of r.remaining r.turns r.failures after)

-- each by itself
pub record ReadsEach {R : Type 0} (r : Ghosts R) (before after : CensusFiles R) (h : Result GeoRows FileFault)
    (one two three : Result SegRows FileFault) : Type 0 where
  pub header : ReadsHeaderFile r before.geo after.geo h
  pub first : ReadsSegmentFile r One before.seg1 after.seg1 one
  pub second : ReadsSegmentFile r Two before.seg2 after.seg2 two
  pub third : ReadsSegmentFile r Three before.seg3 after.seg3 three

-- the first fault of what they came to, or the blocks
abbrev pub JudgesEach : Result GeoRows FileFault → (first second third : Result SegRows FileFault) → Result (Vec BlockRow Global) FileFault → Type 0
JudgesEach header first second third =
    ThenReads header NoFile (λ rows.
    ThenReads first NoFile (λ one.
    ThenReads second NoFile (λ two.
    ThenReads third NoFile (λ three. Joins rows one two three))))

-- The files read in turn come to this; and they stand as so many workers leave them.
abbrev pub ReadsStateBy : {R : Type 0} → Ghosts R → ℕ → (before after : CensusFiles R) → Result (Vec BlockRow Global) FileFault → Type 0
ReadsStateBy {R} r workers before after outcome = (left : CensusFiles R)
    × ReadsState (census_of r.remaining r.turns r.failures before) (census_of r.remaining r.turns r.failures left) outcome
    × AreLeftBy workers before left after

-- the same by whichever number of workers above one
abbrev pub ReadsAtOnce : {R : Type 0} → Ghosts R → (before after : CensusFiles R) → Result (Vec BlockRow Global) FileFault → Type 0
ReadsAtOnce r before after outcome = (workers : ℕ) → 1 < workers → ReadsStateBy r workers before after outcome
