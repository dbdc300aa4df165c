use Rattle.{std.proofs.Common.{◌∙◌, [], IsTrue, get_or, length, sym, ap, subst, rules}, sector_device.specs.Held.image_of, sector_file.specs.Told.{Told, replay}}
use Rattle.sector_file.proofs.Disks.{sectors_kept, recalled_still, as_opened_still, synced_is}
use Rattle.sector_file.proofs.device.FileDevice.open.Goals as goal

pub invariant_of-lent : goal.invariant_of-lent
invariant_of-lent g c =
    search (rules, c.sync_sectors.ensures.synced c.if-sync_sectors.true, recalled_still, c.in_ok-device.ensures.opened)

pub invariant_of-lent-else-sync_sectors : goal.invariant_of-lent-else-sync_sectors
invariant_of-lent-else-sync_sectors g c =
    search (rules, c.sync_sectors.ensures.synced, c.sync_sectors.ensures.fault, sectors_kept, recalled_still, as_opened_still)

pub returns-then-sync_sectors-clause-count : goal.returns-then-sync_sectors-clause-count
returns-then-sync_sectors-clause-count g c = ap (λ (v : Told). length v.0) (c.sync_sectors.ensures.synced c.if-sync_sectors.true) ∙ c.in_ok-device.ensures.ok.1

pub returns-then-sync_sectors-clause-held : goal.returns-then-sync_sectors-clause-held
returns-then-sync_sectors-clause-held g c i less = ap (λ (v : Told). get_or v.0 i []) (c.sync_sectors.ensures.synced c.if-sync_sectors.true) ∙ c.in_ok-device.ensures.held i less

pub returns-then-sync_sectors-clause-reads : goal.returns-then-sync_sectors-clause-reads
returns-then-sync_sectors-clause-reads g c = ap (λ (v : Told). image_of v.0) (c.sync_sectors.ensures.synced c.if-sync_sectors.true) ∙ c.in_ok-device.ensures.reads

pub returns-then-sync_sectors-clause-synced : goal.returns-then-sync_sectors-clause-synced
returns-then-sync_sectors-clause-synced g c = synced_is (replay g.S.Contents.sector c.in_ok-device.device.log.calls) _ (c.sync_sectors.ensures.synced c.if-sync_sectors.true)

pub returns-then-sync_sectors-clause-honest : goal.returns-then-sync_sectors-clause-honest
returns-then-sync_sectors-clause-honest g c = subst (λ (v : Told). IsTrue v.3) (sym (c.sync_sectors.ensures.synced c.if-sync_sectors.true)) c.in_ok-device.ensures.honest
