-- How a fault is shown: its file, the fault's code, and what it carries.
use Rattle.std.specs.Prelude.{ℕ, List, ◌++◌, codes, decimal}
use Rattle.{desk_model.specs.claim.Baf.fault_code, gal_text.specs.claim.Texts.gal_fault_text, pl94_geo.specs.claim.GeoTexts.header_text}
use Rattle.pl94_segment.specs.{claim.SegmentTexts.{segment_text, join_text}, declared.record.SegmentNumber.{SegmentNumber, TheVariants.{One, Two, Three}}}
use Rattle.state_files.specs.declared.fault.{FileFault.{FileFault, TheVariants.{NoHeader, Header, NoSegment, Segment, Join, NoGal, Gal, Plan}}, OpenFault.OpenFault}
use Rattle.state_files.specs.declared.fault.{PlanFault.PlanFault, PlanFile.PlanFile}
use Rattle.state_files.specs.declared.fault.OpenFault.TheVariants as opening
use Rattle.state_files.specs.declared.fault.PlanFile.TheVariants as file
use Rattle.state_files.specs.declared.fault.PlanFault.TheVariants as plan

abbrev pub open_text : OpenFault → List ℕ
open_text opening.Unreadable = codes "Unreadable"
open_text opening.Memory = codes "Memory"

abbrev pub plan_text : PlanFault → List ℕ
plan_text plan.Unreadable = codes "Unreadable"
plan_text plan.TooLarge = codes "TooLarge"
plan_text (plan.Body fault line) = fault_code fault ++ codes " line " ++ decimal line
plan_text plan.Memory = codes "Memory"

abbrev pub segment_file : SegmentNumber → List ℕ
segment_file One = codes "seg1"
segment_file Two = codes "seg2"
segment_file Three = codes "seg3"

abbrev pub plan_file : PlanFile → List ℕ
plan_file file.Plan = codes "plan"
plan_file file.Senate = codes "senate"
plan_file file.Congress = codes "congress"

-- the file that a fault is of
abbrev pub file_text : FileFault → List ℕ
file_text (NoHeader fault) = codes "geo"
file_text (Header fault) = codes "geo"
file_text (NoSegment part fault) = segment_file part
file_text (Segment part fault) = segment_file part
file_text (Join fault) = codes "join"
file_text (NoGal fault) = codes "gal"
file_text (Gal fault) = codes "gal"
file_text (Plan f fault) = plan_file f

abbrev pub code_text : FileFault → List ℕ
code_text (NoHeader fault) = open_text fault
code_text (Header fault) = header_text fault
code_text (NoSegment part fault) = open_text fault
code_text (Segment part fault) = segment_text fault
code_text (Join fault) = join_text fault
code_text (NoGal fault) = open_text fault
code_text (Gal fault) = gal_fault_text fault
code_text (Plan f fault) = plan_text fault

-- how a fault is shown: its file and its code
abbrev pub fault_text : FileFault → List ℕ
fault_text fault = file_text fault ++ codes ": " ++ code_text fault
