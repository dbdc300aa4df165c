use Rattle.{std.proofs.Common.{length, ap, arith}, http_wire_intake.proofs.{DrawsLemmas.draws_more, LookLemmas.waits_more}}
use Rattle.http_wire_intake.proofs.sought.read_until_due.Goals as goal

pub loop-fault-preserved : goal.loop-fault-preserved
loop-fault-preserved g c =
    let before = c.loop-fault.invariant in
    let fills = rw c.in-Ok-false.field-0-test at c.in-Ok-false.ensures.bytes in
    record {
      short = omega (arith, ap length c.held-held.ensures, c.if-held-ge-LOOK_LIMIT.false);
      came = waits_more g.S.PrefixParser.waits _ (g.R.Source.remaining c.loop-fault.intake.reader.now) _ c.args.intake.now.read_buffer.now c.loop-fault.intake.read_buffer.now c.fill.new.self.read_buffer.now fills.0 c.held-held.result.now c.held-looked.result.now
          before.came fills.1 fills.2 c.held-held.ensures c.held-looked.ensures (c.is_due.ensures c.if-is_due.false);
      draws = draws_more _ _ _ c.loop-fault.intake c.fill.new.self before.draws c.in-Ok-false.ensures.draws.draws;
    }
