-- A store that was not opened: one life on its device.
use Rattle.{std.proofs.Common.◌≡◌, desk_store_pages.specs.declared.error.StoreError.StoreError, desk_theorem.specs.claim.{Device.OnDevice, OneLife.UnopenedHolds}}
use Rattle.{desk_theorem.specs.{lives.claim.Versions.MayBar, loading.Openings.IsUnopened, runs.Recovery.ImagesAreOne}, sector_device.specs.declared.SectorDevice.Ghosts}
use Rattle.desk_theorem.proofs.{Device.on_device, OneLife.unopened_holds}
use Rattle.desk_theorem.proofs.lives.VersionLiving.{refused_lives}

pub unopened_life : {D : Type 0} (g : Ghosts D) → ImagesAreOne → (device left : D) (why : StoreError) → IsUnopened g device why left → OnDevice (UnopenedHolds why) (g.disk device) (g.disk left)
unopened_life g law device left why is =
    on_device law (λ t u s e. MayBar t u s.0 why × (e ≡ s)) (UnopenedHolds why) (unopened_holds why) (g.disk device) (g.disk left)
    (refused_lives g device left why is.sectors is.honest is.any_version is.faults is.calm is.why)
