-- A copy of the store, made while the office's lock is held.
use Rattle.std.specs.Prelude.{◌≡◌, ℕ, false, ⊤, Result, OnOk}
use Rattle.{desk_gallery.specs.{Fronts.Kept, claim.After.after}, desk_model.specs.claim.Desk.Desk, desk_theorem_runs.specs.desk_store_pages.claim.Desks.OpensDesk}
use Rattle.{sector_copies.specs.{Copies.Below, declared.fault.CopyFault.CopyFault}, sector_device.specs.{Disk.IsSynced, claim.Disk.{AgreeOff, Disk, Image}}}
use Rattle.sector_device.specs.declared.SectorDevice.{Ghosts}

-- a device is as large as another one, and outside their sectors they read the same
pub record CanCopy (served copy : Disk) : Type 0 where
  pub sectors : copy.sectors ≡ served.sectors
  pub others : AgreeOff (Below served.sectors) served.reads copy.reads

-- A copy was made of what lies there and put in place: the store was opened once more for it, read, and the copy is on the disk. Where
-- that opening read what the store's own device reads, the copy opens to the desk that is shown, whatever a crash leaves of it.
pub record IsCopied {D S T : Type 0} (g : Ghosts D) (gs : Ghosts S) (gt : Ghosts T) (first : Desk) (sound : Type 0)
    (begins : Image → S → Type 0) (places : T → Type 0) (f : Kept D) : Type 0 where
  pub working : f.halted ≡ false
  pub served : S
  pub read : S
  pub copy : T
  pub begun : begins (g.disk f.device).reads served
  pub placed : places copy
  pub synced : (gt.disk copy).is_honest → IsSynced (gt.disk copy)
  pub opens : sound → (g.disk f.device).is_honest → (gs.disk read).is_honest → (gt.disk copy).is_honest
      → ((i : ℕ) → (gs.disk served).reads i ≡ (g.disk f.device).reads i)
      → (c : Image) → (gt.disk copy).leaves c → OpensDesk f.sectors (after first f.shown) c

abbrev pub CopiesShown : {D S T : Type 0} → Ghosts D → Ghosts S → Ghosts T → Desk → Type 0 → (Image → S → Type 0) → (T → Type 0) → Kept D → Result ⊤ CopyFault → Type 0
CopiesShown g gs gt first sound begins places f did = OnOk did (IsCopied g gs gt first sound begins places f)

-- what lies there while the lock is held was copied so
abbrev pub MayCopy : {D S T : Type 0} → Ghosts D → Ghosts S → Ghosts T → Desk → Type 0 → (Image → S → Type 0) → (T → Type 0) → Result ⊤ CopyFault → Type 0
MayCopy {D = D} g gs gt first sound begins places did = (f : Kept D) × CopiesShown g gs gt first sound begins places f did
