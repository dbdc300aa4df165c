-- What is known of the device of a store that may be of either version.
use Rattle.std.specs.Prelude.{◌≡◌, ◌≤◌, ◌<◌, ℕ, false, Ok, Err}
use Rattle.{desk_model.specs.claim.Desk.Desk, desk_store_pages.specs.claim.{Desks.{OpensDesk, OpensOld, OpensEither}, Openings.AllVersions}}
use Rattle.desk_theorem_lives.specs.claim.{DeskLives.{Asked, Told, Lived}, Versions.{Version, version_1, version_2, either, Store, MayBeNew, MayBar, Leads}}
use Rattle.{desk_theorem_lives.specs.declared.leading.Led.Led, desk_theorem_runs.specs.desk_migration.claim.Migrating.{disk_of, is_halted, sectors_of, Keeps}}
use Rattle.{desk_theorem_runs.specs.desk_migration.declared.migration.Migration.Migration, sector_device.specs.{claim.Disk.{Disk, Image}, declared.SectorDevice.Ghosts}}
use Rattle.desk_store_pages.specs.declared.error.StoreError.TheVariants as store
use Rattle.desk_theorem_lives.specs.declared.leading.Led.TheVariants as led

-- an image of n sectors opens to the desk, in a version that the store may be of
abbrev pub OpensIn : Version → ℕ → Desk → Image → Type 0
OpensIn version_1 n d c = OpensOld n d c
OpensIn version_2 n d c = OpensDesk n d c
OpensIn either n d c = OpensEither n d c

-- each image that a stop may leave opens to this desk so, or to some desk
abbrev pub HoldsIn : Version → Disk → Desk → Type 0
HoldsIn v disk d = (c : Image) → disk.leaves c → OpensIn v disk.sectors d c

abbrev pub AllIn : Version → Disk → Type 0
AllIn v disk = (c : Image) → disk.leaves c → (d : Desk) × OpensIn v disk.sectors d c

-- one of them opens to this desk
pub record IsOneIn (v : Version) (disk : Disk) (d : Desk) : Type 0 where
  pub was : Image
  pub left : disk.leaves was
  pub opens : OpensIn v disk.sectors d was

-- each image that a stop may leave opens to a desk of which this is known, all in one version
abbrev pub Knows : (Store → Type 0) → Disk → Type 0
Knows P disk = (v : Version) × ((c : Image) → disk.leaves c → (d : Desk) × P (v, d) × OpensIn v disk.sectors d c)

-- each opens, all in one version, to what a life makes of a desk that was there
abbrev pub Becomes : ((t u : ℕ) → Store → Store → Type 0) → Version → Disk → Disk → Type 0
Becomes life v old new = (w : Version) × ((c : Image) → new.leaves c
    → (d : Desk) × IsOneIn v old d × ((e : Desk) × life old.faults new.faults (v, d) (w, e) × OpensIn w old.sectors e c))

-- what one life comes to, where `life` says what it makes of a store
pub record LivesIn (life : (t u : ℕ) → Store → Store → Type 0) (old new : Disk) : Type 0 where
  pub sectors : new.sectors ≡ old.sectors
  pub honest : new.is_honest → old.is_honest
  pub faults : new.is_honest → AllVersions old → old.faults ≤ new.faults
  pub became : new.is_honest → (v : Version) → AllIn v old → Becomes life v old new

-- What these answers make of one: a store that may be of the new version is answered from its desk on, and is then of that version; or it
-- is not opened.
abbrev pub IsAsked : Asked → Told → (t u : ℕ) → Store → Store → Type 0
IsAsked asked (Ok told) t u s e = MayBeNew s.0 × (e.0 ≡ version_2) × Lived t u s.1 asked.items told.items e.1
IsAsked asked (Err why) t u s e = MayBar t u s.0 why × (e ≡ s)

-- and what a migration does
abbrev pub IsLed : Led → (t u : ℕ) → Store → Store → Type 0
IsLed far t u s e = Leads t u s.0 far e.0 × (e.1 ≡ s.1)

-- ---- within a migration
-- each image that a stop may leave opens to the desk, in the version to which the store was led so far
abbrev pub LedTo : (t u : ℕ) → ℕ → Desk → Led → Disk → Type 0
LedTo t u n d led.Whole disk = (c : Image) → disk.leaves c → OpensDesk n d c
LedTo t u n d led.InPart disk = (c : Image) → disk.leaves c → OpensOld n d c
LedTo t u n d (led.Stopped store.Full) disk = (c : Image) → disk.leaves c → OpensOld n d c
LedTo t u n d (led.Stopped store.Memory) disk = (c : Image) → disk.leaves c → OpensOld n d c
LedTo t u n d (led.Stopped store.DeviceFault) disk = (t < u) × ((c : Image) → disk.leaves c → OpensEither n d c)
LedTo t u n d (led.Stopped _) disk = ⊥
LedTo t u n d (led.Unopened why) disk = ⊥

module _ {D : Type 0} {g : Ghosts D} where
  -- steps that met no fault
  pub record StepsOn (x y : Migration D g) : Type 0 where
    pub working : is_halted y ≡ false
    pub sectors : sectors_of y ≡ sectors_of x
    pub honest : (disk_of y).is_honest → (disk_of x).is_honest
    pub calm : (disk_of y).is_honest → (disk_of y).faults ≡ (disk_of x).faults
    pub keeps : (d : Desk) → Keeps x d → Keeps y d

  -- what a migration came to
  pub record LeadsOn (x : Migration D g) (far : Led) (y : Migration D g) : Type 0 where
    pub sectors : sectors_of y ≡ sectors_of x
    pub honest : (disk_of y).is_honest → (disk_of x).is_honest
    pub faults : (disk_of y).is_honest → (disk_of x).faults ≤ (disk_of y).faults
    pub left : (d : Desk) → Keeps x d → (disk_of y).is_honest → LedTo (disk_of x).faults (disk_of y).faults (sectors_of x) d far (disk_of y)
