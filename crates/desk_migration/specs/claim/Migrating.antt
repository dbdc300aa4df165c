-- A migration, which leads a store from the old version of its rows to the new one, as the layers above see it.
use Rattle.std.specs.Prelude.{◌≡◌, ◌<◌, ◌+◌, ◌*◌, ℕ, Bool, true, false, length}
use Rattle.{desk_migration.specs.{claim.Holding.{AllAreHeld, AreHeldTo, IsHeldBy}, declared.migration.Migration.Migration}, desk_model.specs.claim.Desk.Desk}
use Rattle.{desk_store_pages.specs.claim.Desks.{IsOldMap, InPages as HoldsDesk, OpensDesk, OpensOld, OpensEither}, desk_store_rows.specs.claim.Rows.KeyMap}
use Rattle.{page_btree.specs.gets.claim.Map.InPages, page_store.specs.claim.{Chain.free_in, Transactions.{stored, disk_in, device_in, count_of, journal_of, has_halted, IsSame}}}
use Rattle.{page_store.specs.gate_journal.claim.Store.home, sector_device.specs.{claim.{Disk.{Disk, Image}, Moments.LeavesOnly}, declared.SectorDevice.Ghosts}}

module _ {D : Type 0} {g : Ghosts D} where
  abbrev pub disk_of : Migration D g → Disk
  disk_of x = disk_in x.pages

  abbrev pub device_of : Migration D g → D
  device_of x = device_in x.pages

  -- the device has failed since the opening
  abbrev pub is_halted : Migration D g → Bool
  is_halted x = has_halted x.pages

  -- the last step found nothing to be held
  abbrev pub has_ended : Migration D g → Bool
  has_ended x = x.ended

  -- how many sectors the store has, how many pages a commit may write, and how many pages are free
  abbrev pub sectors_of : Migration D g → ℕ
  sectors_of x = home (journal_of x.pages) + count_of x.pages

  abbrev pub room_of : Migration D g → ℕ
  room_of x = journal_of x.pages

  abbrev pub free_of : Migration D g → ℕ
  free_of x = length (free_in (stored x.pages))

  -- The store holds these rows, which are those of the desk in the old version. Each part that the migration has passed names held
  -- chunks alone, and each part at all does where the last step found nothing to be held.
  pub record HasRows (x : Migration D g) (d : Desk) (m : KeyMap) : Type 0 where
    pub holds : InPages x.pages m
    pub is : IsOldMap m d
    pub done : AreHeldTo x.from m
    pub all : has_ended x ≡ true → AllAreHeld m

  -- The store keeps the desk in the old version: its pages hold it until a fault comes, and each image that a stop may leave opens to it.
  pub record Keeps (x : Migration D g) (d : Desk) : Type 0 where
    pub holds : is_halted x ≡ false → (disk_of x).is_honest → (m : KeyMap) × HasRows x d m
    pub left : (disk_of x).is_honest → (c : Image) → (disk_of x).leaves c → OpensOld (sectors_of x) d c

  -- it does so in the new version
  pub record KeepsNew (x : Migration D g) (d : Desk) : Type 0 where
    pub holds : HoldsDesk x.pages d
    pub left : (c : Image) → (disk_of x).leaves c → OpensDesk (sectors_of x) d c

  -- What holds of both calls that write. From a fault on nothing changes; only a fault halts, and each one does.
  pub record Goes (x y : Migration D g) : Type 0 where
    pub sectors : sectors_of y ≡ sectors_of x
    pub room : room_of y ≡ room_of x
    pub honest : (disk_of y).is_honest → (disk_of x).is_honest
    pub still : is_halted x ≡ true → IsSame x.pages y.pages
    pub rose : is_halted x ≡ false → is_halted y ≡ true → (disk_of y).is_honest → (disk_of x).faults < (disk_of y).faults
    pub calm : is_halted y ≡ false → (disk_of y).is_honest → (disk_of y).faults ≡ (disk_of x).faults

  -- A step: the desk stays, in the old version, and a stop at any moment of it leaves that.
  pub record Moves (x y : Migration D g) : Type 0 where
    pub goes : Goes x y
    pub any_moment : (d : Desk) → Keeps x d → is_halted x ≡ false → (disk_of y).is_honest
        → LeavesOnly (OpensOld (sectors_of x) d) (disk_of x) (disk_of y)
    pub keeps : (d : Desk) → Keeps x d → Keeps y d

  -- So many rows were put: two for each pair of a plan and a chunk that came to be held. Fewer than 16 were only where each chunk that
  -- a part of any plan names is held then.
  pub record HasMore (x : Migration D g) (d : Desk) (m : KeyMap) (count : ℕ) (y : Migration D g) : Type 0 where
    pub n : KeyMap
    pub has : HasRows y d n
    pub pairs : ℕ
    pub two_each : 2 * pairs ≡ count
    pub by : IsHeldBy pairs m n
    pub clean : count < 16 → AllAreHeld n

  -- The end: a stop at any moment of it leaves the desk in either version.
  pub record Ends (x y : Migration D g) : Type 0 where
    pub goes : Goes x y
    pub any_moment : (d : Desk) → Keeps x d → is_halted x ≡ false → (disk_of y).is_honest
        → LeavesOnly (OpensEither (sectors_of x) d) (disk_of x) (disk_of y)
    pub left : (d : Desk) → Keeps x d → (disk_of y).is_honest → (c : Image) → (disk_of y).leaves c → OpensEither (sectors_of x) d c
