use Rattle.{std.proofs.Common.{rules, arith}, gate_journal.{specs.Store.Homes, proofs.{Images.{writes_at, homes_more}, Quiet.step_so}}, sector_device.proofs.Moments.touches_more}
use Rattle.gate_journal.proofs.steps.write_homes.Goals as goal

pub overflow_add-home : goal.overflow_add-home
overflow_add-home g c = search rules

pub write-requires : goal.write-requires
write-requires g c = omega (arith, (c.requires c.loop-k.k c.loop-k-test.true), c.loop-k.invariant.sectors)

pub returns-in_err-write : goal.returns-in_err-write
returns-in_err-write g c = step_so (search rules) (λ honest.
    let w = c.write.ensures.model honest in
    let so_far = c.loop-k.invariant.so_far w.0.was_honest in
    let touches = touches_more (Homes c.args.home c.args.writes.now) _ _ _ _ (λ i is. (_, writes_at c.args.writes.now c.loop-k.k c.loop-k-test.true, is)) so_far.touches w.0 in
    search rules)

pub loop-k-preserved : goal.loop-k-preserved
loop-k-preserved g c = record {
  sectors = search rules;
  so_far = λ honest.
      let w = c.write.ensures.model honest in
      let so_far = c.loop-k.invariant.so_far w.0.was_honest in
      record {
        touches = touches_more (Homes c.args.home c.args.writes.now) _ _ _ _ (λ i is. (_, writes_at c.args.writes.now c.loop-k.k c.loop-k-test.true, is)) so_far.touches w.0;
        passed = search rules;
        done = homes_more c.args.home c.args.writes.now c.loop-k.k (g.D.SectorDevice.disk c.args.device.now).reads _ _ c.loop-k-test.true so_far.done w.0.reads (c.in_ok-write.ensures.written honest);
      };
}
