-- The records of a segment: 2020 Census PL 94-171 summary file, fields of segments 1 to 3.
use Rattle.{std.specs.{List.{list_any, filter_map}, Result.result_ok}, byte_stream.specs.claim.{Judged.Judge, Reading.line_limit}, field_text.specs.claim.Digits.number_of}
use Rattle.std.specs.Prelude.{ℕ, ◌-◌, Bool, not, ◌||◌, if◌then◌else◌, ◌==◌, nat_lt, List, [], ◌∷◌, length, get_or, Option, Some, None, Result, Ok, Err}
use Rattle.{field_text.specs.claim.Fields.fields, pl94_segment.specs.declared.record.{SegRecord.SegRecord, SegmentLineFault.SegmentLineFault, SegmentNumber.SegmentNumber}}
use Rattle.pl94_segment.specs.declared.record.{SegmentLineFault.TheVariants.{Shape, RecordNumber, People, RepeatedRecord}, SegmentNumber.TheVariants.{One, Two, Three}}

abbrev pub part_number : SegmentNumber → ℕ
part_number One = 1
part_number Two = 2
part_number Three = 3

abbrev pub field_count_of : SegmentNumber → ℕ
field_count_of One = 149
field_count_of Two = 152
field_count_of Three = 15

-- field n of a line, counted from 1
abbrev pub field : ℕ → List (List ℕ) → List ℕ
field n whole = get_or whole (n - 1) []

-- LOGRECNO: 1 to 10 digits
abbrev pub logrecno : List (List ℕ) → Option ℕ
logrecno whole = number_of 10 (field 5 whole)

-- a number of people fits 32 bits
abbrev pub in_people : Option ℕ → Option ℕ
in_people None = None
in_people (Some n) = if nat_lt 4294967295 n then None else Some n

abbrev pub people_of_field : List ℕ → Option ℕ
people_of_field text = in_people (number_of 10 text)

-- P0010001, which segment 1 has
abbrev pub p0010001 : SegmentNumber → List (List ℕ) → Option ℕ
p0010001 One whole = people_of_field (field 6 whole)
p0010001 Two whole = Some 0
p0010001 Three whole = Some 0

abbrev pub segment_record : Option ℕ → Option ℕ → Result SegRecord SegmentLineFault
segment_record None p = Err RecordNumber
segment_record (Some n) None = Err People
segment_record (Some n) (Some p) = Ok (record { number = n; people = p })

abbrev pub record_read : SegmentNumber → List (List ℕ) → Result SegRecord SegmentLineFault
record_read part whole = segment_record (logrecno whole) (p0010001 part whole)

-- what a line says by itself
abbrev pub line_read : SegmentNumber → List ℕ → Result SegRecord SegmentLineFault
line_read part line =
    if nat_lt line_limit (length line) || not (length (fields line) == field_count_of part) then Err Shape
    else record_read part (fields line)

-- the records of the lines
abbrev pub record_of : SegmentNumber → List ℕ → Option SegRecord
record_of part line = result_ok (line_read part line)

abbrev pub records : SegmentNumber → List (List ℕ) → List SegRecord
records part ls = filter_map (record_of part) ls

-- the people of the record of that number, where there is one
abbrev pub people_at : List SegRecord → ℕ → Option ℕ
people_at [] n = None
people_at (r ∷ rs) n = if r.number == n then Some r.people else people_at rs n

-- one of the records has that number
abbrev pub has_number : List SegRecord → ℕ → Bool
has_number rs n = list_any (λ r. r.number == n) rs

abbrev pub judged : List SegRecord → Result SegRecord SegmentLineFault → Option SegmentLineFault
judged rs (Err f) = Some f
judged rs (Ok r) = if has_number rs r.number then Some RepeatedRecord else None

-- the fault of a line, given the lines before it
abbrev pub judge : SegmentNumber → Judge SegmentLineFault
judge part before line = judged (records part before) (line_read part line)
