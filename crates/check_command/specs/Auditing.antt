-- What no promise rests on, beside claim/Auditing.antt.
use Rattle.std.specs.Prelude.{◌≡◌, ◌≤◌, ℕ, IsTrue, IsSome, List, length, Option, Result}
use Rattle.{byte_stream.specs.declared.source.Source.Ghosts, check_command.specs.claim.Auditing.{ReportsBeside, Openings, openings_of, AuditsState, StandBy}}
use Rattle.{check_command.specs.declared.report.Audited.Audited, desk_model.specs.{Companions.AreLong, claim.{Companions.takes, Geography.GeographyModel}, declared.kind.Kind.Kind}}
use Rattle.{desk_model.specs.declared.{block.BlockRow.BlockRow, companions.Companions.Companions, kind.Kind.TheVariants.{Senate, Congress}}, state_files.specs.claim.State.Then}
use Rattle.state_files.specs.{claim.{GeographyModels.ReadsWithNeighbours, PlanFiles.{ReadsPlan, companion_of, ReadsCompanion, beside}}, declared.fault.FileFault.FileFault}
use Rattle.state_files.specs.{declared.open.AuditFiles.AuditFiles, declared.plan_file.Companion.Companion}
use Rattle.state_files.specs.declared.fault.PlanFile.TheVariants as file

-- a plan of so many districts, by so many workers, beside companions that its kind takes
pub record MayBeAudited {A B : Type 0} (workers districts : ℕ) (kind : Kind) (senate : Option A) (congress : Option B) : Type 0 where
  pub working : 1 ≤ workers
  pub some : 1 ≤ districts
  pub few : districts ≤ 999
  pub senate_taken : IsSome senate → IsTrue (takes Senate kind)
  pub congress_taken : IsSome congress → IsTrue (takes Congress kind)

-- a plan and its companions have a district for each block, and may be audited so
pub record IsReady (workers n : ℕ) (g : GeographyModel) (kind : Kind) (plan : List ℕ) (beside : Companions (List ℕ)) : Type 0 where
  pub may : MayBeAudited workers n kind beside.senate beside.congress
  pub long : length plan ≡ length g.blocks
  pub beside_long : AreLong (length g.blocks) beside

-- the same, by the file of the congressional plan
abbrev pub ReportsBesideFile : {R : Type 0} → Ghosts R → GeographyModel → Kind → ℕ → List ℕ
    → Option (List ℕ) → (before after : Option (Companion R)) → Result Audited FileFault → Type 0
ReportsBesideFile r g kind n districts senate before after outcome =
    ReportsBeside g kind n districts senate (companion_of r.remaining r.turns r.failures before)
    (companion_of r.remaining r.turns r.failures after) outcome

-- what comes after the census files, of these blocks
abbrev pub AuditsBlocks : List BlockRow → (before after : Openings) → Kind → ℕ → Result Audited FileFault → Type 0
AuditsBlocks blocks before after kind n =
    Then (ReadsWithNeighbours blocks before.neighbours after.neighbours) ((after.plan ≡ before.plan) × (after.beside ≡ before.beside)) (λ g.
    Then (ReadsPlan file.Plan g n before.plan after.plan) (after.beside ≡ before.beside) (λ districts.
    Then (ReadsCompanion file.Senate g before.beside.senate after.beside.senate) (after.beside.congress ≡ before.beside.congress) (λ senate.
    ReportsBeside g kind n districts.items (beside senate) before.beside.congress after.beside.congress)))

abbrev pub AuditsBlocksFiles : {R : Type 0} → Ghosts R → List BlockRow → (before after : AuditFiles R) → Kind → ℕ → Result Audited FileFault → Type 0
AuditsBlocksFiles r blocks before after =
    AuditsBlocks blocks (openings_of r.remaining r.turns r.failures before) (openings_of r.remaining r.turns r.failures after)

-- the audit by so many workers
abbrev pub AuditsStateBy : {R : Type 0} → Ghosts R → (workers : ℕ) → (before after : AuditFiles R) → Kind → ℕ → Result Audited FileFault → Type 0
AuditsStateBy {R} r workers before after kind n outcome =
    (left : AuditFiles R) × StandBy workers before left after
    × AuditsState (openings_of r.remaining r.turns r.failures before) (openings_of r.remaining r.turns r.failures left) kind n outcome
