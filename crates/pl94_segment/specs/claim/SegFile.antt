-- A segment as a whole: which texts are segments, and what they say.
use Rattle.std.specs.{BTreeMap.get, Io.KnownBytes.IsAtEnd, Ordering.nat_cmp, Prelude.{◌≡◌, ℕ, ◌-◌, List, get_or, if◌then◌else◌, nat_lt, Option, Some, None, Result, Ok, Err, ⊤}}
use Rattle.{std.specs.Str.Lines.lines, byte_stream.specs.claim.{Counts.counted, Judged.{AreGood, ShowsFault, IsCutShort}}, pl94_segment.specs.declared.segment.SegFault.SegFault}
use Rattle.pl94_segment.specs.{claim.Records.{people_at, records, judge}, declared.record.SegmentNumber.SegmentNumber, declared.segment.SegRows.SegRows}
use Rattle.pl94_segment.specs.declared.segment.SegFault.TheVariants as fault

-- the people of a number in the run
abbrev pub in_run : SegRows → ℕ → Option ℕ
in_run rows n = if nat_lt n rows.first then None else get_or rows.run.items (n - rows.first) None

abbrev pub or_else : Option ℕ → Option ℕ → Option ℕ
or_else None other = other
or_else (Some p) other = Some p

-- the people of a record number, where the segment has it: in the run, or among the others
unfoldable pub people_of : SegRows → ℕ → Option ℕ
people_of rows n = or_else (in_run rows n) (get nat_cmp rows.others n)

-- the lines are a segment, and these are its records
pub record IsSegment (part : SegmentNumber) (ls : List (List ℕ)) (rows : SegRows) : Type 0 where
  pub good : AreGood (judge part) ls
  pub people : (n : ℕ) → people_of rows n ≡ people_at (records part ls) n

-- what the bytes that came are, where the reader has this left
abbrev pub IsRead : SegmentNumber → List ℕ → Option (List ℕ) → Result SegRows SegFault → Type 0
IsRead part text left (Ok rows) = IsAtEnd left × IsSegment part (lines text) rows
IsRead part text left (Err (fault.Line f number)) = ShowsFault (judge part) text left number f
IsRead part text left (Err (fault.Read number)) = IsCutShort (judge part) text number
IsRead part text left (Err (fault.TurnLimit number)) = IsCutShort (judge part) text number
IsRead part text left (Err fault.Memory) = ⊤

-- one more failure, where it is the source's
abbrev pub failures_after_file : ℕ → Result SegRows SegFault → ℕ
failures_after_file before (Ok rows) = before
failures_after_file before (Err (fault.Line f number)) = before
failures_after_file before (Err (fault.Read number)) = counted before 1
failures_after_file before (Err (fault.TurnLimit number)) = before
failures_after_file before (Err fault.Memory) = before
