-- A store of the old version that is led to the new one.
use Rattle.std.specs.{Prelude.{◌≡◌, ◌⊎◌, ◌≤◌, ◌+◌, ◌*◌, ◌^◌, ℕ, List, codes, true, false, Result, Ok, Err, Vec}, declared.alloc.Global.Global}
use Rattle.{command_output.specs.{claim.Writing.{Written, write_fault_line}, declared.status.Status.Status}, desk_model.specs.claim.Desk.Desk, store_command.specs.Filling.HasDesk}
use Rattle.desk_store_pages.specs.{Openings.IsSpared, claim.{Desks.{OpensEither, OpensOld}, Openings.{AllVersions, IsOneOld, OpensOneAs}}, declared.error.StoreError.StoreError}
use Rattle.{desk_store_rows.specs.claim.Rows.KeyMap, desk_theorem.specs.{claim.{Device.OnDevice, OneLife.LedHolds}, runs.desk_migration.Openings.{IsFound, IsRefused}}}
use Rattle.{desk_theorem.specs.runs.desk_migration.{Puts.{FinishErr, StepErr}, claim.Holding.IsHeldBy, declared.migration.Migration.Migration}, store_command.specs.Texts.rows_text}
use Rattle.desk_theorem.specs.runs.desk_migration.claim.Migrating.{device_of, disk_of, has_ended, is_halted, sectors_of, Ends, HasRows, Keeps, KeepsNew, Moves}
use Rattle.{sector_device.specs.{claim.{Disk.{Disk, Image}, Moments.LeavesOnly}, declared.SectorDevice.Ghosts}, store_command.specs.{Faults.fault_of_store, Telling.EndsStore}}
use Rattle.store_command.specs.{Reading.{BarsWhatIsRead, BeginsAtWhatIsRead, ReadsOld}, Using.Uses, declared.fault.StoreFault.{StoreFault, TheVariants.NotAStore}}
use Rattle.desk_store_pages.specs.declared.error.StoreError.TheVariants as store
use Rattle.desk_theorem.specs.lives.declared.leading.Led.TheVariants as led

-- what is printed of so many rows that were put
abbrev pub migrated_text : ℕ → List ℕ
migrated_text = rows_text (codes "migrated to version 2, ")

-- each image that a stop may leave now opens to the desk in the old version
abbrev pub HasOld : (old new : Disk) → Desk → Type 0
HasOld old new d = (c : Image) → new.leaves c → OpensOld old.sectors d c

-- at each moment between, a stop left what opens to the desk, in either version
abbrev pub LeavesEither : (old new : Disk) → Desk → Type 0
LeavesEither old new d = LeavesOnly (OpensEither old.sectors d) old new

-- Of what a device reads: this, where it reads as a desk in the old version, and is found honest after that.
abbrev pub WhereItReadsOld : (old new : Disk) → (Desk → Type 0) → Type 0
WhereItReadsOld old new P = new.is_honest → (d : Desk) → ReadsOld old d → P d

module _ {D : Type 0} {g : Ghosts D} where
  -- A migration for which the device was opened: at each moment of that a stop left what opens to a desk to which one opened
  -- before, in its version. The store keeps one of these that was there in the old version.
  pub record IsBegun (device : D) (x : Migration D g) : Type 0 where
    pub sectors : sectors_of x ≡ (g.disk device).sectors
    pub honest : (disk_of x).is_honest → (g.disk device).is_honest
    pub any_moment : (disk_of x).is_honest → AllVersions (g.disk device) → LeavesOnly (OpensOneAs (g.disk device)) (g.disk device) (disk_of x)
    pub keeps : AllVersions (g.disk device) → (disk_of x).is_honest → (d : Desk) × (Keeps x d × IsOneOld (g.disk device) d)
    pub found : (disk_of x).is_honest → IsFound (g.disk device) x
    pub working : is_halted x ≡ false
    pub calm : (disk_of x).is_honest → (disk_of x).faults ≡ (g.disk device).faults

  -- so many rows were put: two for each pair of a plan and a chunk that came to be held
  pub record HasPut (x : Migration D g) (d : Desk) (m : KeyMap) (rows : ℕ) (y : Migration D g) : Type 0 where
    pub n : KeyMap
    pub has : HasRows y d n
    pub pairs : ℕ
    pub two_each : 2 * pairs ≡ rows
    pub by : IsHeldBy pairs m n

  -- so many were, and no chunk is left to be held
  pub record IsPut (x : Migration D g) (rows : ℕ) (y : Migration D g) : Type 0 where
    pub works : is_halted y ≡ false
    pub ended : has_ended y ≡ true
    pub put : (disk_of y).is_honest → (d : Desk) (m : KeyMap) → HasRows x d m → HasPut x d m rows y

  -- ---- refusals
  -- a step was refused after those that put rows
  pub record StepStopped (x : Migration D g) (e : StoreError) (y : Migration D g) : Type 0 where
    pub w : Migration D g
    pub before : Moves x w
    pub worked : is_halted w ≡ false
    pub last : Moves w y
    pub why : StepErr w.from w.pages y.pages e

  -- more rows were put than a store has
  pub record IsEndless (x : Migration D g) (y : Migration D g) : Type 0 where
    pub works : is_halted y ≡ false
    pub rows : ℕ
    pub many : 2 ^ 48 ≤ rows
    pub put : (disk_of y).is_honest → (d : Desk) (m : KeyMap) → HasRows x d m → HasPut x d m rows y

  -- a step was refused for this reason; or the device holds what no store has
  abbrev pub IsStopped : Migration D g → StoreFault → Migration D g → Type 0
  IsStopped x fault y = ((e : StoreError) × (fault ≡ fault_of_store e) × StepStopped x e y)
      ⊎ ((fault ≡ NotAStore) × IsEndless x y)

  -- what the steps came to
  abbrev pub PutsAll : Migration D g → Result ℕ StoreFault → Migration D g → Type 0
  PutsAll x (Ok rows) y = IsPut x rows y
  PutsAll x (Err fault) y = IsStopped x fault y

  -- ---- the end
  -- all rows were put, and that of the version after them: so many with it
  pub record IsMigrated (x : Migration D g) (rows : ℕ) (z : Migration D g) : Type 0 where
    pub y : Migration D g
    pub moves : Moves x y
    pub before : ℕ
    pub rows_are : rows ≡ before + 1
    pub put : IsPut x before y
    pub ends : Ends y z
    pub told : (disk_of z).is_honest → (d : Desk) → Keeps y d → KeepsNew z d
    pub works : is_halted z ≡ false

  -- all rows were put, and that of the version was refused
  pub record EndStopped (x : Migration D g) (e : StoreError) (z : Migration D g) : Type 0 where
    pub y : Migration D g
    pub moves : Moves x y
    pub rows : ℕ
    pub put : IsPut x rows y
    pub ends : Ends y z
    pub stays : is_halted z ≡ false → (d : Desk) → Keeps y d → Keeps z d
    pub why : FinishErr y.pages z.pages e

  abbrev pub EndsStopped : Migration D g → StoreFault → Migration D g → Type 0
  EndsStopped x fault z = (e : StoreError) × (fault ≡ fault_of_store e) × EndStopped x e z

  -- what a migration came to
  abbrev pub MigratesAll : Migration D g → Result ℕ StoreFault → Migration D g → Type 0
  MigratesAll x (Ok rows) z = IsMigrated x rows z
  MigratesAll x (Err fault) z = (Moves x z × IsStopped x fault z) ⊎ EndsStopped x fault z

-- One life, in which the migration was stopped for this; one that put more rows than a store has was given up in part.
abbrev pub StoppedLife : (old new : Disk) → StoreFault → Type 0
StoppedLife old new fault = ((e : StoreError) × (fault ≡ fault_of_store e) × OnDevice (LedHolds (led.Stopped e)) old new)
    ⊎ ((fault ≡ NotAStore) × ((rows : ℕ) × (2 ^ 48 ≤ rows) × OnDevice (LedHolds led.InPart) old new))

module _ {D : Type 0} (g : Ghosts D) where
  -- The device is not opened for a migration, and is left so: at each moment of that a stop left what opens to a desk to which
  -- one opened before, in its version. What is no store stays as it is.
  pub record IsNotBegun (device : D) (fault : StoreFault) (left : D) : Type 0 where
    pub error : StoreError
    pub told : fault ≡ fault_of_store error
    pub sectors : (g.disk left).sectors ≡ (g.disk device).sectors
    pub honest : (g.disk left).is_honest → (g.disk device).is_honest
    pub any_moment : (g.disk left).is_honest → AllVersions (g.disk device) → LeavesOnly (OpensOneAs (g.disk device)) (g.disk device) (g.disk left)
    pub why : IsRefused (g.disk device) (g.disk left) error
    pub spared : (g.disk left).is_honest → error ≡ store.NotAStore → IsSpared (g.disk device) (g.disk left)
    pub bars : (g.disk left).is_honest → BarsWhatIsRead (g.disk device) (g.disk left) error
    pub life : OnDevice (LedHolds (led.Unopened error)) (g.disk device) (g.disk left)

  -- The device was opened and migrated, and given back so. Where it read as a desk in the old version, a stop at any moment of both
  -- left this desk, in either version; and what it leaves from then on opens to it in the new one.
  pub record HasMigrated (device : D) (rows : ℕ) (left : D) : Type 0 where
    pub x : Migration D g
    pub begun : IsBegun device x
    pub begins : BeginsAtWhatIsRead device x
    pub z : Migration D g
    pub migrated : IsMigrated x rows z
    pub back : left ≡ device_of z
    pub any_moment : WhereItReadsOld (g.disk device) (g.disk left) (λ d. LeavesEither (g.disk device) (g.disk left) d)
    pub after : WhereItReadsOld (g.disk device) (g.disk left) (λ d. HasDesk (g.disk device) (g.disk left) d)
    pub life : OnDevice (LedHolds led.Whole) (g.disk device) (g.disk left)

  -- The device was opened, and its migration was stopped. Where no fault came, what a stop leaves from then on opens in the old
  -- version.
  pub record HasStopped (device : D) (fault : StoreFault) (left : D) : Type 0 where
    pub x : Migration D g
    pub begun : IsBegun device x
    pub begins : BeginsAtWhatIsRead device x
    pub z : Migration D g
    pub why : MigratesAll x (Err fault) z
    pub back : left ≡ device_of z
    pub any_moment : WhereItReadsOld (g.disk device) (g.disk left) (λ d. LeavesEither (g.disk device) (g.disk left) d)
    pub after : is_halted z ≡ false → WhereItReadsOld (g.disk device) (g.disk left) (λ d. HasOld (g.disk device) (g.disk left) d)
    pub life : StoppedLife (g.disk device) (g.disk left) fault

  -- what became of the device: it isn't opened, or its migration went so far
  abbrev pub MigratesDevice : D → Result ℕ StoreFault → D → Type 0
  MigratesDevice device (Ok rows) left = HasMigrated device rows left
  MigratesDevice device (Err fault) left = IsNotBegun device fault left ⊎ HasStopped device fault left

module _ {D O : Type 0} (g : Ghosts D) (opens : O → List ℕ → Result D StoreFault → O → Type 0) (closes : O → D → O → Type 0) where
  -- what comes of a store, with the text that is printed; where memory is refused before, none is opened
  abbrev pub Migrates : (before : O) → List ℕ → Result (Vec ℕ Global) StoreFault → (after : O) → Type 0
  Migrates = Uses opens closes (MigratesDevice g) migrated_text

  -- the store of the name, which becomes one of the new version
  abbrev pub MigratesStore : (stores stores_after : O) → List ℕ → Status → (before after told_before told_after : Written) → Type 0
  MigratesStore stores stores_after name status before after told_before told_after = (given : Result (Vec ℕ Global) StoreFault)
      × Migrates stores name given stores_after × EndsStore (write_fault_line (codes "migrate")) given status before after told_before told_after
