use Rattle.{std.proofs.Common.{◌≡◌, false, rules}, desk_gallery.proofs.Copied.is_copied, sector_device.proofs.Moments.on_ok}
use Rattle.desk_gallery.proofs.copying.copy_shown.Goals as goal

pub place-requires : goal.place-requires
place-requires g c = c.in-Ok-copy_sectors.ensures.synced

pub returns-in-Ok-copy_sectors : goal.returns-in-Ok-copy_sectors
returns-in-Ok-copy_sectors g c =
    let begins = g.U.Upkeep.begins c.args.upkeep.now in
    let places = g.U.Upkeep.places c.args.upkeep.now in
    let working : c.args.front.now.halted ≡ false = search rules in
    on_ok c.place.result (λ placed. is_copied g.D.SectorDevice g.U.Served.SectorDevice g.U.Copied.SectorDevice g.J.GalleryId.first g.J.GalleryId.sound begins places c.args.front.now
    c.in-Ok.both.0 c.copy_sectors.new.source c.in-Ok.both.1 c.copy_sectors.new.target working c.is_kept.ensures c.in-Ok.ensures.fits c.in-Ok-copy_sectors.ensures c.in-Ok.ensures.begins placed) c.place.ensures
