-- What is known of a printed report.
use Rattle.{std.proofs.Common.{◌≡◌, true, false, Result, Ok, Err, IfOk, refl, sym, ◌∙◌, ap, ⊎_elim, true≢false}, check_command.specs.Sharing.is_of_report}
use Rattle.{check_command.specs.{claim.Auditing.EndsAudit, declared.report.Audited.Audited}, command_output.specs.claim.{Faults.status_of_fault, Writing.Written}}
use Rattle.{command_output.specs.declared.status.Status.Status, state_files.specs.declared.fault.FileFault.FileFault}
use Rattle.state_files.specs.declared.fault.FileFault.TheVariants.{NoHeader, Header, NoSegment, Segment, Join, NoGal, Gal, Plan}
use Rattle.state_files.specs.pl94_geo.declared.geo.GeoFault.TheVariants as geo
use Rattle.state_files.specs.pl94_segment.declared.segment.SegFault.TheVariants as segment
use Rattle.state_files.specs.pl94_segment.declared.join.JoinFault.TheVariants as join
use Rattle.state_files.specs.gal_text.declared.fault.GalFault.TheVariants as gal
use Rattle.state_files.specs.declared.fault.OpenFault.TheVariants as opening
use Rattle.state_files.specs.declared.fault.PlanFault.TheVariants as plan

-- no fault's status goes with a report
of_fault : (fault : FileFault) → is_of_report (status_of_fault fault) ≡ false
of_fault (NoHeader opening.Unreadable) = refl
of_fault (Header (geo.Line fault line)) = refl
of_fault (NoSegment part opening.Unreadable) = refl
of_fault (Segment part (segment.Line fault line)) = refl
of_fault (Join (join.Missing number part)) = refl
of_fault (NoGal opening.Unreadable) = refl
of_fault (Gal (gal.Text fault)) = refl
of_fault (Plan file plan.Unreadable) = refl
of_fault _ = refl

-- what is known of a report is known where the status is that of one
pub of_printed : {P : Type 0} (outcome : Result Audited FileFault) (status : Status) (printed print told tell : Written)
    → EndsAudit outcome status printed print told tell → IfOk outcome (λ _. P) → is_of_report status ≡ true → P
of_printed (Ok audited) status printed print told tell ends known is = known
of_printed (Err fault) status printed print told tell ends known is =
    absurd (⊎_elim (λ own. true≢false (sym is ∙ ap is_of_report own.0 ∙ of_fault fault)) (λ memory. true≢false (sym is ∙ ap is_of_report memory.0)) ends.1)
