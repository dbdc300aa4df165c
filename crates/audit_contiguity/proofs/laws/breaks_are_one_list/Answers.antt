use Rattle.audit_contiguity.proofs.OneList.{one_list}
use Rattle.audit_contiguity.proofs.laws.breaks_are_one_list.Goals as goal

pub returns : goal.returns
returns c = one_list
