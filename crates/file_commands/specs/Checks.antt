-- An audit of the files at some paths.
use Rattle.{std.specs.Prelude.{ℕ, List, Result}, byte_stream.specs.declared.source.Source.Ghosts, check_command.specs.claim.Auditing.AuditsBy, state_files.specs.Opens.OpensAudit}
use Rattle.{command_line.specs.declared.options.AuditOptions.AuditOptions, command_output.specs.{claim.Writing.Written, declared.status.Status.Status}}
use Rattle.state_files.specs.{declared.fault.OpenFault.OpenFault, declared.open.{AuditFiles.AuditFiles, AuditPaths.AuditPaths}}
pub use Rattle.file_commands.specs.claim.Audits.{IsOfAudit}

-- The files were opened by their paths, and audited by so many workers as the plan of a kind that the terms name, with their number of
-- districts.
pub record AuditsPaths {R O : Type 0} (r : Ghosts R) (opens : O → List ℕ → Result R OpenFault → O → Type 0) (opener : O) (paths : AuditPaths) (terms : AuditOptions)
    (workers : ℕ) (status : Status) (left : AuditFiles R) (after : O) (old new told_old told_new : Written) : Type 0 where
  pub files : AuditFiles R
  pub opened : OpensAudit opens opener paths terms.beside files after
  pub audits : AuditsBy r workers files left terms.kind terms.districts status old new told_old told_new
