use Rattle.{std.proofs.Common.rules, http_wire.proofs.ConnectionLemmas.{some_part, ends_after}}
use Rattle.http_wire.proofs.lists.ends_in_chunked.Goals as goal

pub loop-next-preserved : goal.loop-next-preserved
loop-next-preserved c = search (rules, c.cut.ensures, c.loop-next.invariant, ends_after, some_part)
