use Rattle.{std.proofs.Common.refl, sector_device.{specs.claim.Disk.Nowhere, proofs.Moments.touches_none}, store_verification.proofs.Seen.joined_whole}
use Rattle.store_verification.proofs.beside.look_beside.Goals as goal

pub returns-then-not-is_closed : goal.returns-then-not-is_closed
returns-then-not-is_closed g c = record { sectors = refl; synced = c.requires; moves = touches_none Nowhere (g.D.SectorDevice.disk c.args.device.now); looked = tt }

pub returns-in_default : goal.returns-in_default
returns-in_default g c = record { sectors = refl; synced = c.requires; moves = touches_none Nowhere (g.D.SectorDevice.disk c.args.device.now); looked = tt }

pub returns : goal.returns
returns g c =
    let reader = g.R.SectorDevice.disk in
    let lent = c.in-Some.ensures in
    let all = c.look_all-first.result in
    let look = c.look_all-first.ensures in
    let back = c.take_all_back.ensures in
    let looked = joined_whole g.O.Readers.held (g.D.SectorDevice.disk c.args.device.now) (reader c.in-Some.first) (reader c.in-Some.second) (reader c.in-Some.third) (reader all.0.1) (reader all.1.1.1) (reader all.1.0.1)
    (g.D.SectorDevice.disk c.take_all_back.new.device) lent.0 lent.1 lent.2 back all.0.0 all.1.1.0 all.1.0.0 look.owners look.desk look.rows c.joined.result c.joined.ensures in
    record { sectors = back.sectors; synced = back.synced c.requires; moves = back.moves; looked = looked }
