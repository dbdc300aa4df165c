use Rattle.{std.proofs.Common.{◌+◌, ◌/◌, ◌∙◌, ap, length, rules, arith}, gate_journal.{specs.{Steps.Span, claim.Store.word}, proofs.Images.list_more}}
use Rattle.sector_device.proofs.Moments.{touches_more}
use Rattle.gate_journal.proofs.steps.write_list.Goals as goal

pub loop-s-preserved : goal.loop-s-preserved
loop-s-preserved g c = record {
  sectors = search rules;
  so_far = λ honest.
      let w = c.write.ensures.model honest in
      let so_far = c.loop-s.invariant.so_far w.0.was_honest in
      record {
        touches = touches_more (Span 2 (length c.args.writes.now / 1024 + 1)) _ _ _ _ (λ i is. (omega arith, omega arith)) so_far.touches w.0;
        passed = search rules;
        done = list_more c.args.writes.now c.loop-s.s (g.D.SectorDevice.disk c.loop-s.device) (g.D.SectorDevice.disk c.write.new.self) so_far.done w.0.reads (λ j lt le. ap (λ s. word s j) (c.in_ok-write.ensures.written honest) ∙ c.fill_list.ensures j lt le);
      };
}
