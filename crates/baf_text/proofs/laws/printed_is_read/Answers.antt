use Rattle.baf_text.proofs.Again.{printed_is_read}
use Rattle.baf_text.proofs.laws.printed_is_read.Goals as goal

pub returns : goal.returns
returns c = printed_is_read
