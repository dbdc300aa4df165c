use Rattle.{std.proofs.Common.{rules, ap}, sector_device.specs.Held.refused, sector_file.specs.Told.Told}
use Rattle.sector_file.proofs.Disks.{sync_is, fault_is, synced_is, sectors_kept, recalled_still, as_opened_still}
use Rattle.sector_file.proofs.device.FileDeviceSectorDevice.sync.Goals as goal

pub invariant_of-self : goal.invariant_of-self
invariant_of-self g c = search (rules, sectors_kept, recalled_still, as_opened_still)

pub returns-then-sync_sectors-clause-model : goal.returns-then-sync_sectors-clause-model
returns-then-sync_sectors-clause-model g c = λ honest.
    let is = c.sync_sectors.ensures.synced c.if-sync_sectors.true in
    (sync_is _ c.args.self.now.few _ _ is honest, record { failed = tt; passed = ap (λ (t : Told). refused t.2) is })

pub returns-then-sync_sectors-clause-synced : goal.returns-then-sync_sectors-clause-synced
returns-then-sync_sectors-clause-synced g c = λ honest. synced_is _ _ (c.sync_sectors.ensures.synced c.if-sync_sectors.true)

pub returns-else-sync_sectors-clause-model : goal.returns-else-sync_sectors-clause-model
returns-else-sync_sectors-clause-model g c = λ honest. search (rules, fault_is)
