-- What the audit of a plan from files comes to: after the census files the neighbour file, the plan and its companions are read and judged
-- in turn, and the first fault ends it.
use Rattle.std.specs.Prelude.{◌≡◌, ℕ, Bool, true, false, nat_lt, List, ◌++◌, length, codes, Option, Result, Ok, Err, string_bytes}
use Rattle.{audit_report.specs.claim.{Figures.Figures, Report.IsReport, ReportText.report_text}, byte_stream.specs.declared.source.Source.Ghosts}
use Rattle.{check_command.specs.{claim.Writing.Prints, declared.report.Audited.Audited}, command_output.specs.claim.{Telling.Tells, Writing.Written}}
use Rattle.{command_output.specs.declared.status.Status.{Status, TheVariants.{Done, Broken}}, desk_model.specs.{claim.Geography.GeographyModel, declared.kind.Kind.Kind}}
use Rattle.{desk_model.specs.declared.companions.Companions.Companions, state_files.specs.claim.{GeographyModels.ReadsWithNeighbours, State.{Then, NoFile, ReadsState, AreLeftBy}}}
use Rattle.state_files.specs.claim.{Opening.{Opening, opening_of, Census, census_of}, PlanFiles.{ReadsPlan, companion_of, ReadsCompanion, beside}}
use Rattle.state_files.specs.{declared.fault.FileFault.{FileFault, TheVariants.Plan}, declared.open.AuditFiles.AuditFiles}
use Rattle.state_files.specs.declared.fault.PlanFile.TheVariants as file
use Rattle.state_files.specs.declared.fault.PlanFault.TheVariants as plan

-- the report of the plan, as text, and whether it names a clause
pub record IsAudited (g : GeographyModel) (kind : Kind) (n : ℕ) (plan : List ℕ) (beside : Companions (List ℕ)) (audited : Audited) : Type 0 where
  pub figures : Figures
  pub is : IsReport g kind n plan beside figures
  pub text : string_bytes audited.text ≡ report_text figures ++ codes "\n"
  pub broken : audited.broken ≡ nat_lt 0 (length figures.broken)

abbrev pub Reports : GeographyModel → Kind → ℕ → List ℕ → Companions (List ℕ) → Result Audited FileFault → Type 0
Reports g kind n districts beside (Ok audited) = IsAudited g kind n districts beside audited
Reports g kind n districts beside (Err fault) = fault ≡ Plan file.Plan plan.Memory

-- the congressional plan after the senate plan, and the report of all
abbrev pub ReportsBeside : GeographyModel → Kind → ℕ → List ℕ → Option (List ℕ) → (before after : Option (Opening × ℕ)) → Result Audited FileFault → Type 0
ReportsBeside g kind n districts senate before after =
    Then (ReadsCompanion file.Congress g before after) NoFile (λ congress. Reports g kind n districts (record {
      senate = senate;
      congress = beside congress;
    }))

-- the openings of the files, in the order in which they are judged
pub record Openings : Type 0 where
  pub census : Census
  pub neighbours : Opening
  pub plan : Opening
  pub beside : Companions (Opening × ℕ)

abbrev pub openings_of : {R : Type 0} → (R → Option (List ℕ)) → (R → ℕ) → (R → ℕ) → AuditFiles R → Openings
openings_of unread turns failures files = record {
  census = census_of unread turns failures files.census;
  neighbours = opening_of unread turns failures files.gal;
  plan = opening_of unread turns failures files.plan;
  beside = record {
    senate = companion_of unread turns failures files.senate;
    congress = companion_of unread turns failures files.congress;
  };
}

-- the files one after the other, and the report of what they say
abbrev pub AuditsState : (before after : Openings) → Kind → ℕ → Result Audited FileFault → Type 0
AuditsState before after kind n =
    Then (ReadsState before.census after.census) ((after.neighbours ≡ before.neighbours)
    × (after.plan ≡ before.plan) × (after.beside ≡ before.beside)) (λ rows.
    Then (ReadsWithNeighbours rows.items before.neighbours after.neighbours) ((after.plan ≡ before.plan) × (after.beside ≡ before.beside)) (λ g.
    Then (ReadsPlan file.Plan g n before.plan after.plan) (after.beside ≡ before.beside) (λ districts.
    Then (ReadsCompanion file.Senate g before.beside.senate after.beside.senate) (after.beside.congress ≡ before.beside.congress) (λ senate.
    ReportsBeside g kind n districts.items (beside senate) before.beside.congress after.beside.congress))))

-- 1 where the report names a broken clause, else 0
abbrev pub report_status : Bool → Status
report_status true = Broken
report_status false = Done

-- the report is printed; or nothing is, and the fault is told
abbrev pub EndsAudit : Result Audited FileFault → Status → (before after told_before told_after : Written) → Type 0
EndsAudit (Ok audited) status before after told_before told_after =
    Prints (string_bytes audited.text) (report_status audited.broken) status before after told_before told_after
EndsAudit (Err fault) status before after told_before told_after = (after ≡ before) × Tells fault status told_before told_after

-- the audit of the plan that the files say
abbrev pub Audits : {R : Type 0} → Ghosts R → (files left : AuditFiles R) → Kind
    → ℕ → Status → (before after told_before told_after : Written) → Type 0
Audits r files left kind n status before after told_before told_after =
    (outcome : Result Audited FileFault)
    × AuditsState (openings_of r.remaining r.turns r.failures files) (openings_of r.remaining r.turns r.failures left) kind n outcome
    × EndsAudit outcome status before after told_before told_after

-- The files stand as they are left where they are read in turn; but of the census files those after the first fault may have been read
-- too, where there is more than one worker.
pub record StandBy {R : Type 0} (workers : ℕ) (before left after : AuditFiles R) : Type 0 where
  pub census : AreLeftBy workers before.census left.census after.census
  pub neighbours : after.gal ≡ left.gal
  pub plan : after.plan ≡ left.plan
  pub senate : after.senate ≡ left.senate
  pub congress : after.congress ≡ left.congress

-- the audit by so many workers, which is the one that reads in turn, and how the files stand then
abbrev pub AuditsBy : {R : Type 0} → Ghosts R → (workers : ℕ) → (files stand : AuditFiles R) → Kind
    → ℕ → Status → (before after told_before told_after : Written) → Type 0
AuditsBy {R} r workers files stand kind n status before after told_before told_after =
    (left : AuditFiles R) × StandBy workers files left stand
    × Audits r files left kind n status before after told_before told_after
