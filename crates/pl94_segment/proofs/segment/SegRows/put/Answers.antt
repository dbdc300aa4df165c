use Rattle.{std.proofs.Common.{refl, rules}, pl94_segment.proofs.RunLemmas.{grows_in_run, grows_outside}}
use Rattle.pl94_segment.proofs.segment.SegRows.put.Goals as goal

pub returns-then-is_near : goal.returns-then-is_near
returns-then-is_near c = search (rules, c.begin_run.ensures, c.is_near.ensures, c.if-is_near.true, c.in_ok-put_at.ensures, grows_in_run)

pub returns-in-Ok : goal.returns-in-Ok
returns-in-Ok c = grows_outside c.args.self.now c.begin_run.new.self _ c.args.row c.begin_run.ensures refl refl c.in-Ok.ensures.updates
