use Rattle.{std.proofs.Common.rules, http_desk_streams.proofs.BodyLemmas.kept}
use Rattle.http_desk_streams.proofs.body.put_plans.Goals as goal

pub loop-row-preserved : goal.loop-row-preserved
loop-row-preserved c = search (rules, c.in_ok-put_item.ensures, c.loop-row.invariant, kept)
