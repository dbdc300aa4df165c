-- What an opening finds on a device, and what it leaves.
use Rattle.{std.specs.Prelude.{Bool, true, false}, desk_model.specs.claim.Desk.Desk, desk_store_pages.specs.claim.Desks.OpensAs, sector_device.specs.claim.Disk.{Disk, Image}}
use Rattle.sector_device.specs.claim.Moments.{LeavesOnly}

-- each does in either version
abbrev pub AllVersions : Disk → Type 0
AllVersions disk = (c : Image) → disk.leaves c → (x : Bool × Desk) × OpensAs disk.sectors x c

-- one of them opens to the desk in this version
pub record IsOneAs (disk : Disk) (x : Bool × Desk) : Type 0 where
  pub was : Image
  pub left : disk.leaves was
  pub opens : OpensAs disk.sectors x was

abbrev pub IsOneOf : Disk → Desk → Type 0
IsOneOf disk d = IsOneAs disk (true, d)

abbrev pub IsOneOld : Disk → Desk → Type 0
IsOneOld disk d = IsOneAs disk (false, d)

-- the image opens to one of these desks, in the version in which it was there
pub record OpensOneAs (disk : Disk) (c : Image) : Type 0 where
  pub x : Bool × Desk
  pub one : IsOneAs disk x
  pub opens : OpensAs disk.sectors x c

-- at any moment of an opening a stop leaves a desk that was there, in its version
abbrev pub LeavesOneAs : Disk → Disk → Type 0
LeavesOneAs old new = new.is_honest → AllVersions old → LeavesOnly (OpensOneAs old) old new
