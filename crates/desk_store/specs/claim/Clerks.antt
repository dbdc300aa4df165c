-- A clerk, who keeps a desk in the pages of a store, as the layers above see it.
use Rattle.std.specs.Prelude.{◌≡◌, ◌⊎◌, ◌<◌, ◌+◌, ℕ, Bool, true, false, length}
use Rattle.{desk_model.specs.claim.Desk.Desk, desk_store.specs.{claim.Keeping.IsLeft, declared.clerk.Clerk.Clerk}, desk_store_pages.specs.claim.Desks.{InPages, OpensDesk}}
use Rattle.page_store.specs.{claim.{Chain.free_in, Transactions.{stored, disk_in, count_of, journal_of, has_halted, IsSame, IsQuiet}}, declared.pages.Pages.Pages}
use Rattle.{page_store.specs.gate_journal.claim.Store.home, sector_device.specs.{claim.{Disk.{Disk, Image}, Moments.LeavesOnly}, declared.SectorDevice.Ghosts}}

module _ {D : Type 0} {g : Ghosts D} where
  -- the desk that is shown
  abbrev pub desk_of : Clerk D g → Desk
  desk_of x = x.catalogue.value

  -- the pages of its store
  abbrev pub pages_of : Clerk D g → Pages D g
  pages_of x = x.pages

  abbrev pub disk_of : Clerk D g → Disk
  disk_of x = disk_in (pages_of x)

  -- a fault came, and from then on commands are refused
  abbrev pub is_halted : Clerk D g → Bool
  is_halted x = x.halted

  -- how many sectors the store has, how many pages a commit may write, and how many pages are free
  abbrev pub sectors_of : Clerk D g → ℕ
  sectors_of x = home (journal_of (pages_of x)) + count_of (pages_of x)

  abbrev pub room_of : Clerk D g → ℕ
  room_of x = journal_of (pages_of x)

  abbrev pub free_of : Clerk D g → ℕ
  free_of x = length (free_in (stored (pages_of x)))

  -- The store keeps the desk that is shown: its pages hold it until a fault comes, and each image that a stop may leave opens to it,
  -- or after a fault to it or to the desk after one change more.
  pub record Keeps (x : Clerk D g) : Type 0 where
    pub holds : x.halted ≡ false → (disk_of x).is_honest → InPages (pages_of x) (desk_of x)
    pub left : (disk_of x).is_honest → (c : Image) → (disk_of x).leaves c → IsLeft x.halted (sectors_of x) (desk_of x) c

  -- The pages halt where the device fails and nowhere else, whatever they hold: then its count of failures has risen, and else it is as
  -- it was.
  pub record HaltsByDevice (x y : Clerk D g) : Type 0 where
    pub rose : has_halted (pages_of x) ≡ false → has_halted (pages_of y) ≡ true → (disk_of y).is_honest → (disk_of x).faults < (disk_of y).faults
    pub calm : has_halted (pages_of y) ≡ false → (disk_of y).is_honest → (disk_of y).faults ≡ (disk_of x).faults

  -- a call that read at most, and shows what was shown
  pub record Reads (x y : Clerk D g) : Type 0 where
    pub quiet : IsQuiet (pages_of x) (pages_of y)
    pub desk : desk_of y ≡ desk_of x
    pub halts : x.halted ≡ true → y.halted ≡ true
    pub still : x.halted ≡ true → IsSame (pages_of x) (pages_of y)
    pub rose : Keeps x → x.halted ≡ false → y.halted ≡ true → (disk_of y).is_honest → (disk_of x).faults < (disk_of y).faults

  -- A call by which the desk may have become the next one. What it says of the store rests on `sound`, which tells that the store kept
  -- the desk before it.
  pub record MovesIf (sound : Type 0) (next : Desk) (x y : Clerk D g) : Type 0 where
    pub sectors : sectors_of y ≡ sectors_of x
    pub room : room_of y ≡ room_of x
    pub honest : (disk_of y).is_honest → (disk_of x).is_honest
    -- a stop at any moment of it leaves the desk before or the desk after
    pub any_moment : sound → x.halted ≡ false → (disk_of y).is_honest
        → LeavesOnly (λ c. OpensDesk (sectors_of x) (desk_of x) c ⊎ OpensDesk (sectors_of x) next c) (disk_of x) (disk_of y)
    pub keeps : sound → Keeps y
    -- from a fault on nothing changes
    pub still : x.halted ≡ true → IsSame (pages_of x) (pages_of y) × (desk_of y ≡ desk_of x) × (y.halted ≡ true)
    -- only a fault halts, and each one does
    pub rose : sound → x.halted ≡ false → y.halted ≡ true → (disk_of y).is_honest → (disk_of x).faults < (disk_of y).faults
    pub calm : y.halted ≡ false → (disk_of y).is_honest → (disk_of y).faults ≡ (disk_of x).faults

  abbrev pub Moves : Desk → Clerk D g → Clerk D g → Type 0
  Moves next x y = MovesIf (Keeps x) next x y
