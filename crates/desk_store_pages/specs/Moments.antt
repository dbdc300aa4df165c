-- What a stop leaves at any moment of a call that writes pages, where they had not halted and the device is honest.
use Rattle.std.specs.Prelude.{◌≡◌, ◌⊎◌, ◌+◌, ℕ, false}
use Rattle.page_store.specs.{claim.Transactions.{disk_in, count_of, journal_of, has_halted}, declared.pages.Pages.Pages, gate_journal.claim.Store.home}
use Rattle.sector_device.specs.{claim.{Disk.Image, Moments.LeavesOnly}, declared.SectorDevice.Ghosts}

-- `holds` says which values (maps, desks) the pages held, `opens` to which of them an image of so many sectors opens
module _ {D : Type 0} {g : Ghosts D} {X : Type 0} where
  -- each image that a stop leaves opens to what the pages held
  abbrev pub StopsLeave : (X → Type 0) → (ℕ → X → Image → Type 0) → Pages D g → Pages D g → Type 0
  StopsLeave holds opens old new =
      (disk_in new).is_honest → has_halted old ≡ false → (sectors : ℕ) (x : X) → home (journal_of old) + count_of old ≡ sectors
      → holds x → LeavesOnly (opens sectors x) (disk_in old) (disk_in new)

  -- the same of pages that are known to work
  abbrev pub StopsLeaveAtWork : (X → Type 0) → (ℕ → X → Image → Type 0) → Pages D g → Pages D g → Type 0
  StopsLeaveAtWork holds opens old new =
      (disk_in new).is_honest → (sectors : ℕ) (x : X) → home (journal_of old) + count_of old ≡ sectors
      → holds x → LeavesOnly (opens sectors x) (disk_in old) (disk_in new)

  -- each opens to what the pages held, or to what follows
  abbrev pub StopsLeaveEither : (X → Type 0) → (X → Type 0) → (ℕ → X → Image → Type 0) → Pages D g → Pages D g → Type 0
  StopsLeaveEither holds follows opens old new =
      (disk_in new).is_honest → has_halted old ≡ false → (sectors : ℕ) (x next : X) → home (journal_of old) + count_of old ≡ sectors
      → holds x → follows next → LeavesOnly (λ c. opens sectors x c ⊎ opens sectors next c) (disk_in old) (disk_in new)
