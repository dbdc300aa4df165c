-- Which four texts are a state's census files, and which blocks they say, in one view of all of them.
use Rattle.{std.specs.{List.{IsDistinct, Sorted.IsPermutation}, Option.option_to_list, Str.Lines.lines}, byte_stream.specs.claim.Judged.AreGood}
use Rattle.std.specs.Prelude.{◌≡◌, ℕ, Bool, true, ◌&&◌, List, ◌++◌, map, sum_by, All, nat_eq, Option, IfSome, is_ok, is_some, unwrap_or}
use Rattle.{desk_model.specs.{claim.GeographyModels.AreBlocks, declared.block.BlockRow.BlockRow}, pl94_geo.specs.{Whole.AreHeaderLines, claim.GeoFile.IsHeader}}
use Rattle.pl94_geo.specs.{claim.Judging.{entries, blocks_of, state_record_of}, declared.{entry.GeoRecord.GeoRecord, geo.GeoRows.GeoRows, header.GeoBlock.GeoBlock}}
use Rattle.pl94_segment.specs.{claim.{Join.AreJoined, Records.{line_read, records, people_at, judge}, SegFile.IsSegment}, declared.record.SegmentNumber.SegmentNumber}
use Rattle.pl94_segment.specs.{declared.record.SegmentNumber.TheVariants.{One, Two, Three}, declared.segment.SegRows.SegRows}

-- every line has its shape, and no record number stands twice
pub record AreSegmentLines (part : SegmentNumber) (ls : List (List ℕ)) : Type 0 where
  pub shaped : All (λ line. is_ok (line_read part line) ≡ true) ls
  pub different : IsDistinct nat_eq (map (λ r. r.number) (records part ls))

-- the record numbers of the blocks and of the state record
abbrev pub taken_in : List GeoRecord → List ℕ
taken_in es = map (λ b. b.number) (blocks_of es) ++ option_to_list (state_record_of es)

-- the people of a record number in a segment's text
abbrev pub people_in : SegmentNumber → List ℕ → ℕ → Option ℕ
people_in part text n = people_at (records part (lines text)) n

-- every segment has the record
abbrev pub stands_in_all : List ℕ → List ℕ → List ℕ → ℕ → Bool
stands_in_all first second third n = is_some (people_in One first n) && is_some (people_in Two second n) && is_some (people_in Three third n)

-- the blocks with their cities and their people: field 6 of segment 1 under the block's record number
abbrev pub counted_block : List ℕ → GeoBlock → BlockRow
counted_block first b = record { id = b.id; city = b.city; population = unwrap_or (people_in One first b.number) 0 }

abbrev pub counted_blocks : List ℕ → List ℕ → List BlockRow
counted_blocks header first = map (counted_block first) (blocks_of (entries (lines header)))

-- the people of all blocks
abbrev pub counted_people : List ℕ → List ℕ → ℕ
counted_people header first = sum_by (λ b. b.population) (counted_blocks header first)

-- These four texts are a state's census files, and these are its blocks, rising by number: every line has its shape,
-- each taken record stands in every segment, and the state record's people are those of all blocks.
pub record AreCensusFiles (header first second third : List ℕ) (rows : List BlockRow) : Type 0 where
  pub header_lines : AreHeaderLines (lines header)
  pub first_lines : AreSegmentLines One (lines first)
  pub second_lines : AreSegmentLines Two (lines second)
  pub third_lines : AreSegmentLines Three (lines third)
  pub complete : All (λ n. stands_in_all first second third n ≡ true) (taken_in (entries (lines header)))
  pub total : IfSome (state_record_of (entries (lines header))) (λ n. unwrap_or (people_in One first n) 0 ≡ counted_people header first)
  pub same : IsPermutation (counted_blocks header first) rows
  pub blocks : AreBlocks rows

-- the readers' rows of each text
pub record AreRowsOf (header first second third : List ℕ) (geo : GeoRows) (a b c : SegRows) : Type 0 where
  pub header_rows : IsHeader (lines header) geo
  pub first_rows : IsSegment One (lines first) a
  pub second_rows : IsSegment Two (lines second) b
  pub third_rows : IsSegment Three (lines third) c

-- what the join gives of them is what the texts say, and where the texts say it the join gives it
abbrev pub FilesLaw : Type 0
FilesLaw = (header first second third : List ℕ) (geo : GeoRows) (a b c : SegRows) (rows : List BlockRow)
    → AreRowsOf header first second third geo a b c
    → (AreJoined geo a b c rows → AreCensusFiles header first second third rows)
    × (AreCensusFiles header first second third rows → AreJoined geo a b c rows)

-- a segment's lines are good one after the other exactly where they are a segment's as a whole
abbrev pub SegmentLaw : Type 0
SegmentLaw = (part : SegmentNumber) (ls : List (List ℕ))
    → (AreGood (judge part) ls → AreSegmentLines part ls) × (AreSegmentLines part ls → AreGood (judge part) ls)
