use Rattle.{std.proofs.{Common.{◌∙◌, ◌+◌, rules}, lemmas.Bool.false≢true}, sector_device.specs.claim.Disk.Nowhere, gate_journal.proofs.Images.{names_more, names_of}}
use Rattle.sector_device.proofs.Moments.{touches_more}
use Rattle.gate_journal.proofs.recovery.list_fits.Goals as goal

pub returns-then-not-names_pages : goal.returns-then-not-names_pages
returns-then-not-names_pages g c = record {
  sectors = search rules;
  model = λ honest.
      let r = c.in_ok-read.ensures.model honest in
      let so_far = c.loop-s.invariant.so_far r.0.was_honest in
      (touches_more Nowhere Nowhere _ _ _ (λ i none. none) so_far.touches r.0, record { failed = tt; passed = r.1.passed ∙ so_far.passed });
  told = λ honest.
      let r = c.in_ok-read.ensures.model honest in
      let so_far = c.loop-s.invariant.so_far r.0.was_honest in
      let a = g.D.SectorDevice.disk c.args.device.now in
      let s = c.loop-s.s in
      let is = c.in_ok-read.ensures.reads honest ∙ so_far.touches.reads.same (2 + s) (λ none. none) in
      (λ never. absurd (false≢true never), λ names. c.if-not-names_pages.ensures.1 (names_of a.reads s c.args.count c.args.layout.pages c.read.new.sector is names));
}

pub loop-s-preserved : goal.loop-s-preserved
loop-s-preserved g c = record {
  sectors = search rules;
  so_far = λ honest.
      let r = c.in_ok-read.ensures.model honest in
      let so_far = c.loop-s.invariant.so_far r.0.was_honest in
      let s = c.loop-s.s in
      let is = c.in_ok-read.ensures.reads honest ∙ so_far.touches.reads.same (2 + s) (λ none. none) in
      search (touches_more, so_far.touches, r.0, r.1.passed, so_far.passed, names_more, g.D.SectorDevice.disk, c.read.new.sector, c.if-not-names_pages.ensures.0, so_far.done);
}
