use Rattle.{std.proofs.{Common.{◌+◌, ◌∙◌, rules, arith}, lemmas.List.take_all}, gate_journal.{specs.{Store.Homes, claim.Store.{home, copies}}, proofs.Quiet.opens_so}}
use Rattle.{sector_device.{specs.claim.Disk.Nowhere, proofs.Moments.touches_more}, gate_journal.proofs.Commit.{back_more, entry_same, count_is}}
use Rattle.gate_journal.proofs.recovery.copy_back.Goals as goal

pub loop-k-preserved : goal.loop-k-preserved
loop-k-preserved g c = record {
  sectors = search rules;
  honest = λ honest. c.loop-k.invariant.honest (c.in_ok-page.ensures.model (c.in_ok-copy_sector.ensures.model honest).touches.was_honest).0.was_honest;
  so_far = λ honest counted valid.
      let copied = c.in_ok-copy_sector.ensures.model honest in
      let entry = c.in_ok-page.ensures.model copied.touches.was_honest in
      let so_far = c.loop-k.invariant.so_far entry.0.was_honest counted valid in
      let told = c.in_ok-page.ensures.told copied.touches.was_honest in
      let both = back_more c.args.layout.journal_pages _ _ _ _ c.loop-k.k c.in_ok-page.page valid.count (omega (arith, counted)) so_far.touches entry.0 told copied.touches in
      let done = both.1 so_far.done copied.done in
      search rules;
}

pub returns-in_err-page : goal.returns-in_err-page
returns-in_err-page g c = opens_so (search rules) (search rules) (search rules) (λ honest counted valid.
    let entry = c.list_entry.ensures.model honest in
    let so_far = c.loop-k.invariant.so_far entry.0.was_honest counted valid in
    let touches = touches_more (Homes (home c.args.layout.journal_pages) (copies c.args.layout.journal_pages (g.D.SectorDevice.disk c.args.device.now).reads)) Nowhere _ _ _ (λ i none. absurd none) so_far.touches entry.0 in
    search rules)

pub returns-then-page-layout : goal.returns-then-page-layout
returns-then-page-layout g c = opens_so (search rules) (search rules) (search rules) (λ honest counted valid.
    let a = g.D.SectorDevice.disk c.args.device.now in
    let so_far = c.loop-k.invariant.so_far (c.in_ok-page.ensures.model honest).0.was_honest counted valid in
    let is = c.in_ok-page.ensures.told honest ∙ entry_same c.args.layout.journal_pages a (g.D.SectorDevice.disk c.loop-k.device) (c.loop-k.k + 1) (omega arith) so_far.touches in
    absurd (omega (arith, is, counted, c.if-page-layout.true, valid.each c.loop-k.k (omega (arith, counted)))))

pub returns-in_err-copy_sector : goal.returns-in_err-copy_sector
returns-in_err-copy_sector g c = opens_so (search rules) (search rules) (search rules) (λ honest counted valid.
    let copied = c.copy_sector.ensures.model honest in
    let entry = c.in_ok-page.ensures.model copied.touches.was_honest in
    let so_far = c.loop-k.invariant.so_far entry.0.was_honest counted valid in
    let told = c.in_ok-page.ensures.told copied.touches.was_honest in
    let both = back_more c.args.layout.journal_pages _ _ _ _ c.loop-k.k c.in_ok-page.page valid.count (omega (arith, counted)) so_far.touches entry.0 told copied.touches in
    let passed = entry.1.passed ∙ so_far.passed in
    search rules)

pub returns : goal.returns
returns g c = search (rules, opens_so, take_all, count_is)
