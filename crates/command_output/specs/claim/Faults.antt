-- The exit status of a fault.
use Rattle.{command_output.specs.declared.status.Status.{Status, TheVariants.{Refused, Memory}}, state_files.specs.declared.fault.{FileFault.FileFault, OpenFault.OpenFault}}
use Rattle.state_files.specs.declared.fault.{FileFault.TheVariants.{NoHeader, Header, NoSegment, Segment, Join, NoGal, Gal, Plan}, PlanFault.PlanFault}
use Rattle.state_files.specs.{gal_text.declared.fault.GalFault.GalFault, pl94_geo.declared.geo.GeoFault.GeoFault, pl94_segment.declared.join.JoinFault.JoinFault}
use Rattle.state_files.specs.pl94_segment.declared.segment.SegFault.{SegFault}
use Rattle.state_files.specs.pl94_geo.declared.geo.GeoFault.TheVariants as geo
use Rattle.state_files.specs.pl94_segment.declared.segment.SegFault.TheVariants as segment
use Rattle.state_files.specs.pl94_segment.declared.join.JoinFault.TheVariants as join
use Rattle.state_files.specs.gal_text.declared.fault.GalFault.TheVariants as gal
use Rattle.state_files.specs.declared.fault.OpenFault.TheVariants as opening
use Rattle.state_files.specs.declared.fault.PlanFault.TheVariants as plan

-- 5 where memory was refused, and 3 for all else
abbrev pub status_of_open : OpenFault → Status
status_of_open opening.Unreadable = Refused
status_of_open opening.Memory = Memory

abbrev pub status_of_geo : GeoFault → Status
status_of_geo (geo.Line fault line) = Refused
status_of_geo (geo.Read line) = Refused
status_of_geo (geo.NoBlock line) = Refused
status_of_geo (geo.TurnLimit line) = Refused
status_of_geo geo.Memory = Memory

abbrev pub status_of_segment : SegFault → Status
status_of_segment (segment.Line fault line) = Refused
status_of_segment (segment.Read line) = Refused
status_of_segment (segment.TurnLimit line) = Refused
status_of_segment segment.Memory = Memory

abbrev pub status_of_join : JoinFault → Status
status_of_join (join.Missing number part) = Refused
status_of_join join.TooManyPeople = Refused
status_of_join (join.OtherTotal state total) = Refused
status_of_join join.Memory = Memory

abbrev pub status_of_gal : GalFault → Status
status_of_gal (gal.Text fault) = Refused
status_of_gal (gal.MissingUnit block) = Refused
status_of_gal (gal.OneWay first second) = Refused
status_of_gal gal.Read = Refused
status_of_gal gal.TurnLimit = Refused
status_of_gal gal.Memory = Memory

abbrev pub status_of_plan : PlanFault → Status
status_of_plan plan.Unreadable = Refused
status_of_plan plan.TooLarge = Refused
status_of_plan (plan.Body fault line) = Refused
status_of_plan plan.Memory = Memory

abbrev pub status_of_fault : FileFault → Status
status_of_fault (NoHeader fault) = status_of_open fault
status_of_fault (Header fault) = status_of_geo fault
status_of_fault (NoSegment part fault) = status_of_open fault
status_of_fault (Segment part fault) = status_of_segment fault
status_of_fault (Join fault) = status_of_join fault
status_of_fault (NoGal fault) = status_of_open fault
status_of_fault (Gal fault) = status_of_gal fault
status_of_fault (Plan file fault) = status_of_plan fault
