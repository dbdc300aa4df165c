use Rattle.{std.proofs.Common.take, baf_text.proofs.Rows.id_small}
use Rattle.baf_text.proofs.near.LastHead.head_of.Goals as goal

pub from_number-requires : goal.from_number-requires
from_number-requires c = id_small 15 (take 15 c.args.text.now) c.in-Some.number c.in-Some.ensures
