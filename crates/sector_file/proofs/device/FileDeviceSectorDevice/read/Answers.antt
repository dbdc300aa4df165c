use Rattle.{std.proofs.Common.{rules, subst, IsTrue}, sector_file.{specs.Told.{Told, replay}, proofs.Steps.{bytes_same, recalled_read}}}
use Rattle.sector_file.proofs.device.FileDeviceSectorDevice.read.Goals as goal

pub returns-then-got-eq-SECTOR_SIZE-clause-reads : goal.returns-then-got-eq-SECTOR_SIZE-clause-reads
returns-then-got-eq-SECTOR_SIZE-clause-reads g c = λ honest. bytes_same (replay g.S.Contents.sector c.args.self.now.log.calls).3 _ _ (subst (λ (t : Told). IsTrue t.3) (c.read_sector-got.ensures.whole c.if-got-eq-SECTOR_SIZE.true) honest)

pub invariant_of-self : goal.invariant_of-self
invariant_of-self g c =
    let was = c.args.self.now in
    let t = replay g.S.Contents.sector was.log.calls in
    let u = replay g.S.Contents.sector c.read_sector-got.new.log.calls in
    let is = c.read_sector-got.ensures.whole c.if-got-eq-SECTOR_SIZE.true in
    let recalled = recalled_read t u c.args.i _ was.recent c.note.new.self is was.recalled c.note.ensures in
    search (rules, is, recalled, was.as_opened)
