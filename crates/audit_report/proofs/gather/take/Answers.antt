use Rattle.audit_report.proofs.Gathering.{taken_by}
use Rattle.audit_report.proofs.gather.take.Goals as goal

pub returns : goal.returns
returns c = search taken_by
