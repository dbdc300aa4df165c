-- What no promise rests on, beside claim/Openings.antt.
use Rattle.std.specs.Prelude.{◌⊎◌, ℕ}
use Rattle.{desk_model.specs.claim.Desk.Desk, desk_store_pages.specs.claim.{Desks.{OpensDesk, OpensOld}, Openings.IsOneOf}, page_store.specs.Transactions.IsUntouched}
use Rattle.{page_store.specs.gate_journal.{Recovery.Found, claim.Store.{Opens, pages}}, sector_device.specs.claim.{Disk.{Disk, Image}, Moments.LeavesOnly}}

-- each image that a stop may leave opens to a desk in the new version
abbrev pub AllDesks : Disk → Type 0
AllDesks disk = (c : Image) → disk.leaves c → (d : Desk) × OpensDesk disk.sectors d c

-- each does in the old version
abbrev pub AllOld : Disk → Type 0
AllOld disk = (c : Image) → disk.leaves c → (d : Desk) × OpensOld disk.sectors d c

-- it opens to one of those in the new version
pub record OpensOneOf (disk : Disk) (c : Image) : Type 0 where
  pub desk : Desk
  pub one : IsOneOf disk desk
  pub opens : OpensDesk disk.sectors desk c

-- the same where all were of the new version
abbrev pub LeavesOneOf : Disk → Disk → Type 0
LeavesOneOf old new = new.is_honest → AllDesks old → LeavesOnly (OpensOneOf old) old new

-- the pages of a store that was there, as they were
abbrev pub HasPages : Disk → Disk → Type 0
HasPages old new = (J : ℕ) × (n : ℕ) × Found J n old new

-- and each image that a stop may leave stands for them, with its header
pub record StillStands (old new : Disk) : Type 0 where
  pub J : ℕ
  pub n : ℕ
  pub found : Found J n old new
  pub stands : (c : Image) → new.leaves c → Opens J n (pages J new.reads) c

-- what is no store stays as it is, and so do the pages of one that holds no desk
abbrev pub IsSpared : Disk → Disk → Type 0
IsSpared old new = IsUntouched old new ⊎ StillStands old new
