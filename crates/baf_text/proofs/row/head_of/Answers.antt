use Rattle.{std.proofs.Common.{take, sym, ◌∙◌}, baf_text.proofs.Rows.id_small}
use Rattle.baf_text.proofs.row.head_of.Goals as goal

pub from_number-requires : goal.from_number-requires
from_number-requires c = id_small 15 (take 15 c.args.text.now) c.in-Some.id (sym c.fifteen_digits.ensures.value ∙ c.in-Some.is)
