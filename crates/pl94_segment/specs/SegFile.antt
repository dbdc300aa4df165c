-- What no promise rests on, beside claim/SegFile.antt.
use Rattle.std.specs.Prelude.{◌≡◌, ℕ, List, [], ◌∷◌, ◌++◌, if◌then◌else◌, ◌==◌, false, Some, None, Result, Ok, Err, ⊤}
use Rattle.{byte_stream.specs.declared.reader.ReadFault.ReadFault, pl94_segment.specs.claim.{Records.{people_at, has_number, records, judged, judge}, SegFile.people_of}}
use Rattle.pl94_segment.specs.{declared.record.{SegRecord.SegRecord, SegmentLineFault.TheVariants.Shape, SegmentNumber.SegmentNumber}, declared.segment.SegFault.SegFault}
use Rattle.pl94_segment.specs.declared.segment.{SegRows.SegRows, SegmentRefusal.SegmentRefusal}
use Rattle.byte_stream.specs.declared.reader.ReadFault.TheVariants as read
use Rattle.pl94_segment.specs.declared.segment.SegmentRefusal.TheVariants as refusal
use Rattle.pl94_segment.specs.declared.segment.SegFault.TheVariants as fault

-- the rows have the record beside what they had, where it is new to them
abbrev pub Grows : SegRows → SegRecord → SegRows → Type 0
Grows old r new = people_of old r.number ≡ None → (n : ℕ) → people_of new n ≡ (if r.number == n then Some r.people else people_of old n)

-- the rows are these records
pub record Holds (rows : SegRows) (rs : List SegRecord) : Type 0 where
  pub people : (n : ℕ) → people_of rows n ≡ people_at rs n

-- how a fault of the reader is told
abbrev pub told : ReadFault → ℕ → SegFault
told read.TooLong number = fault.Line Shape number
told read.Failed number = fault.Read number
told read.TurnLimit number = fault.TurnLimit number

-- how a refusal is told
abbrev pub refused : SegmentRefusal → ℕ → SegFault
refused (refusal.Fault f) number = fault.Line f number
refused refusal.Memory number = fault.Memory

-- one more record is taken, or it has a fault
abbrev pub Takes : List SegRecord → SegRecord → Result (Unit {0}) SegmentRefusal → SegRows → Type 0
Takes rs r (Ok u) new = (has_number rs r.number ≡ false) × Holds new (rs ++ r ∷ [])
Takes rs r (Err (refusal.Fault f)) new = judged rs (Ok r) ≡ Some f
Takes rs r (Err refusal.Memory) new = ⊤

-- one more line is good, or it has a fault
abbrev pub Judges : SegmentNumber → List (List ℕ) → List ℕ → Result (Unit {0}) SegmentRefusal → SegRows → Type 0
Judges part ls line (Ok u) new = (judge part ls line ≡ None) × Holds new (records part (ls ++ line ∷ []))
Judges part ls line (Err (refusal.Fault f)) new = judge part ls line ≡ Some f
Judges part ls line (Err refusal.Memory) new = ⊤
