use Rattle.audit_contiguity.proofs.OneList.{breaks_put_together}
use Rattle.audit_contiguity.proofs.laws.breaks_follow.Goals as goal

pub returns : goal.returns
returns c = breaks_put_together
