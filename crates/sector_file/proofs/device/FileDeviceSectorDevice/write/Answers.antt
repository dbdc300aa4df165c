use Rattle.{std.proofs.Common.{ap, arith}, sector_device.specs.Held.refused, sector_file.{specs.Told.{Told, replay}, proofs.Disks.{write_is, torn_is}}}
use Rattle.sector_file.proofs.Steps.{length_wrote, recalled_wrote}
use Rattle.sector_file.proofs.device.FileDeviceSectorDevice.write.Goals as goal

pub returns-then-put-eq-SECTOR_SIZE-clause-model : goal.returns-then-put-eq-SECTOR_SIZE-clause-model
returns-then-put-eq-SECTOR_SIZE-clause-model g c = λ honest.
    let is = c.write_sector-put.ensures.whole c.if-put-eq-SECTOR_SIZE.true in
    (write_is _ c.args.self.now.few _ _ c.args.i c.args.sector.now is honest, record { failed = tt; passed = ap (λ (t : Told). refused t.2) is })

pub returns-else-put-eq-SECTOR_SIZE-clause-model : goal.returns-else-put-eq-SECTOR_SIZE-clause-model
returns-else-put-eq-SECTOR_SIZE-clause-model g c = λ honest.
    let is = c.write_sector-put.ensures.torn c.if-put-eq-SECTOR_SIZE.false in
    (torn_is _ c.args.self.now.few _ _ c.args.i is honest, record { failed = omega (arith, ap (λ (t : Told). refused t.2) is); passed = tt })

pub invariant_of-self : goal.invariant_of-self
invariant_of-self g c =
    let was = c.args.self.now in
    let t = replay g.S.Contents.sector was.log.calls in
    let u = replay g.S.Contents.sector c.write_sector-put.new.log.calls in
    let put = c.write_sector-put.ensures in
    let long = length_wrote t u c.args.i c.write_sector-put.result c.args.sector.now put.whole put.torn in
    let recalled = recalled_wrote t u c.args.i c.write_sector-put.result c.args.sector.now put.whole put.torn was.recent c.forget.new.self was.recalled c.forget.ensures in
    search (arith, long, recalled)
