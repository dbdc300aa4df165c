-- An audit of some files, by the exit status.
use Rattle.{byte_stream.specs.declared.source.Source.Ghosts, check_command.specs.claim.Auditing.Audits, command_line.specs.declared.options.AuditOptions.AuditOptions}
use Rattle.{command_output.specs.{claim.Writing.Written, declared.status.Status.Status}, state_files.specs.declared.open.AuditFiles.AuditFiles}

-- The status is that of an audit of some files as the plan of that kind, with that number of districts.
pub record IsOfAudit {R : Type 0} (r : Ghosts R) (terms : AuditOptions) (status : Status) : Type 0 where
  pub files : AuditFiles R
  pub left : AuditFiles R
  pub old : Written
  pub new : Written
  pub told_old : Written
  pub told_new : Written
  pub audits : Audits r files left terms.kind terms.districts status old new told_old told_new
