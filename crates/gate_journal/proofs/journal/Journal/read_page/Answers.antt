use Rattle.{std.proofs.Common.{◌≡◌, ap, rules}, gate_journal.{specs.claim.Store.{pages, home_pages}, proofs.Commit.shut_pages}, sector_device.specs.claim.Disk.Image}
use Rattle.gate_journal.proofs.journal.Journal.read_page.Goals as goal

pub returns : goal.returns
returns g c = record {
  shape = search rules;
  quiet = search rules;
  same = search rules;
  reads = λ honest.
      let a = g.D.SectorDevice.disk c.args.self.now.device in
      let J = c.args.self.now.layout.journal_pages in
      let settled = c.args.self.now.settled c.if-self.false (c.read.ensures.model honest).0.was_honest in
      let shut : home_pages J a.reads c.args.p ≡ pages J a.reads c.args.p = ap (λ (X : Image). X c.args.p) (shut_pages J a.reads settled.closed) in
      let read = c.read.ensures.reads honest in
      search rules;
  ok = search rules;
  passed = search rules;
  err = search rules;
}
