-- What an opening makes of a device that holds one desk.
use Rattle.{desk_model.specs.claim.Desk.Desk, desk_store_pages.specs.claim.Desks.OpensEither, sector_device.specs.claim.Disk.{Disk, Image}}

-- each does so in either version: so it is where a migration was stopped
abbrev pub HoldsEither : Disk → Desk → Type 0
HoldsEither disk d = (c : Image) → disk.leaves c → OpensEither disk.sectors d c
