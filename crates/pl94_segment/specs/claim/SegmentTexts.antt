-- How a fault of a segment is told, and one of the join: its code and what it carries.
use Rattle.std.specs.Prelude.{ℕ, List, ◌++◌, codes, decimal}
use Rattle.pl94_segment.specs.{claim.Records.part_number, declared.{join.JoinFault.JoinFault, segment.SegFault.SegFault}, declared.record.SegmentLineFault.SegmentLineFault}
use Rattle.pl94_segment.specs.declared.record.SegmentLineFault.TheVariants as line
use Rattle.pl94_segment.specs.declared.segment.SegFault.TheVariants as segment
use Rattle.pl94_segment.specs.declared.join.JoinFault.TheVariants as join

abbrev pub line_code : SegmentLineFault → List ℕ
line_code line.Shape = codes "S1"
line_code line.RecordNumber = codes "S2"
line_code line.People = codes "S3"
line_code line.RepeatedRecord = codes "S4"

abbrev pub segment_text : SegFault → List ℕ
segment_text (segment.Line fault number) = line_code fault ++ codes " line " ++ decimal number
segment_text (segment.Read number) = codes "S5 line " ++ decimal number
segment_text (segment.TurnLimit number) = codes "S6 line " ++ decimal number
segment_text segment.Memory = codes "Memory"

abbrev pub join_text : JoinFault → List ℕ
join_text (join.Missing number part) = codes "S7 " ++ decimal number ++ codes " " ++ decimal (part_number part)
join_text join.TooManyPeople = codes "S9"
join_text (join.OtherTotal state total) = codes "S8 " ++ decimal state ++ codes " " ++ decimal total
join_text join.Memory = codes "Memory"
