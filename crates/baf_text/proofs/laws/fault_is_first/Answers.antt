use Rattle.baf_text.proofs.Faulty.{fault_is_first}
use Rattle.baf_text.proofs.laws.fault_is_first.Goals as goal

pub returns : goal.returns
returns c = fault_is_first
