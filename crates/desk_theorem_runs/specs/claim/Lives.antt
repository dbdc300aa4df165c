-- Lives of a store. In each it is opened, given commands or migrated, and stopped; the next one finds what that stop may have left.
use Rattle.std.specs.Prelude.{◌≡◌, ◌≤◌, ℕ, false, List, [], ◌∷◌, ◌++◌, length, take, get_or, Result, Ok, IfOk}
use Rattle.desk_migration.specs.{claim.{Migrating.disk_of as migrated_disk, Openings.device_after as device_left}, declared.migration.Migration.Migration}
use Rattle.{desk_model.specs.{claim.Desk.Desk, declared.command.Command.Command}, desk_store.specs.claim.Clerks.{desk_of, disk_of, is_halted, sectors_of, Keeps}}
use Rattle.{desk_store.specs.{claim.Openings.device_after, declared.clerk.Clerk.Clerk}, desk_store_pages.specs.{claim.Desks.OpensEither, declared.error.StoreError.StoreError}}
use Rattle.{desk_store_pages.specs.claim.Openings.{AllVersions, IsOneOf, LeavesOneAs}, desk_theorem_runs.specs.claim.{Migrations.{IsEntry, Migrates}, Recovery.HoldsEither}}
use Rattle.{desk_theorem_runs.specs.claim.Runs.{Call, Run, after, acknowledged, acknowledged_at, in_flight}, sector_device.specs.{claim.Disk.Image, declared.SectorDevice.Ghosts}}

-- What an opening comes to. At each moment of it a stop leaves an image that opens to a desk to which one opened before, in the same
-- version; a clerk who comes of it shows one of these desks, keeps it, and has not halted.
pub record IsOpening {D : Type 0} (g : Ghosts D) (device : D) (result : Result (Clerk D g) (StoreError × D)) : Type 0 where
  pub any_moment : LeavesOneAs (g.disk device) (g.disk (device_after result))
  pub opened : AllVersions (g.disk device) → IfOk result (λ x. Keeps x × ((disk_of x).is_honest → IsOneOf (g.disk device) (desk_of x)))
  pub working : IfOk result (λ x. (is_halted x ≡ false) × (sectors_of x ≡ (g.disk device).sectors))

-- A life: an opening that a stop cuts short, or that is refused; or an opening, a run of commands, and a stop when so many of them were
-- acknowledged, in the midst of a command or between two; or the same of an opening for a migration, and of its steps.
pub data Life {D : Type 0} (g : Ghosts D) : Type 0 where
  opening : (device : D) (result : Result (Clerk D g) (StoreError × D)) → IsOpening g device result → Life g
  running : (device : D) (x : Clerk D g) → IsOpening g device (Ok x) → (calls : List Call) (z : Clerk D g) → Run x calls z → (count : ℕ) → Life g
  entering : (device : D) (result : Result (Migration D g) (StoreError × D)) → IsEntry g device result → Life g
  migrating : (device : D) (x : Migration D g) → IsEntry g device (Ok x) → (z : Migration D g) → Migrates x z → Life g

-- the device has n sectors, and each image that a stop may leave of it is one of these
abbrev pub Finds : {D : Type 0} (g : Ghosts D) → ℕ → (Image → Type 0) → D → Type 0
Finds g n left device = ((g.disk device).sectors ≡ n) × ((c : Image) → (g.disk device).leaves c → left c)

module _ {D : Type 0} {g : Ghosts D} where
  -- the device that it finds
  abbrev pub found : Life g → D
  found (Life.opening device result is) = device
  found (Life.running device x is calls z run count) = device
  found (Life.entering device result is) = device
  found (Life.migrating device x is z steps) = device

  -- the commands that were accepted in it: those that are acknowledged, and the one in which a fault came
  abbrev pub accepted : Life g → List Command
  accepted (Life.opening device result is) = []
  accepted (Life.running device x is calls z run count) = acknowledged calls ++ in_flight x calls z run
  accepted (Life.entering device result is) = []
  accepted (Life.migrating device x is z steps) = []

  -- how many of them were acknowledged before the stop
  abbrev pub told : Life g → ℕ
  told (Life.opening device result is) = 0
  told (Life.running device x is calls z run count) = count
  told (Life.entering device result is) = 0
  told (Life.migrating device x is z steps) = 0

  -- the images that the stop may have left: at any moment since the opening began, or since so many were acknowledged
  abbrev pub left_by : Life g → Image → Type 0
  left_by (Life.opening device result is) = λ c. (g.disk (device_after result)).left (g.disk device).moment c
  left_by (Life.running device x is calls z run count) = λ c. (disk_of z).left (get_or ((disk_of x).moment ∷ acknowledged_at x calls z run) count 0) c
  left_by (Life.entering device result is) = λ c. (g.disk (device_left result)).left (g.disk device).moment c
  left_by (Life.migrating device x is z steps) = λ c. (migrated_disk z).left (g.disk device).moment c

  -- the device kept to its model, and so many were acknowledged
  abbrev pub IsSound : Life g → Type 0
  IsSound (Life.opening device result is) = (g.disk (device_after result)).is_honest
  IsSound (Life.running device x is calls z run count) = (disk_of z).is_honest × (count ≤ length (acknowledged_at x calls z run))
  IsSound (Life.entering device result is) = (g.disk (device_left result)).is_honest
  IsSound (Life.migrating device x is z steps) = (migrated_disk z).is_honest

  -- one life after the other, each on what the stop before it may have left
  abbrev pub Follow : ℕ → (Image → Type 0) → List (Life g) → Type 0
  Follow n left [] = Unit {0}
  Follow n left (life ∷ lives) = Finds g n left (found life) × IsSound life × Follow n (left_by life) lives

  -- what the last stop may have left
  abbrev pub last_left : (Image → Type 0) → List (Life g) → Image → Type 0
  last_left left [] = left
  last_left left (life ∷ lives) = last_left (left_by life) lives

  -- The commands that lasted: of each life the accepted ones up to some place, and all that were acknowledged before its stop are among
  -- them.
  pub data Lasted : List (Life g) → List Command → Type 0 where
    none : Lasted [] []
    more : (life : Life g) (lives : List (Life g)) (count : ℕ) (commands : List Command) → told life ≤ count → count ≤ length (accepted life)
        → Lasted lives commands → Lasted (life ∷ lives) (take count (accepted life) ++ commands)

  -- an image opens to the desk after commands that lasted, in either version
  pub record OpensAfterLives (n : ℕ) (d : Desk) (lives : List (Life g)) (c : Image) : Type 0 where
    pub commands : List Command
    pub lasted : Lasted lives commands
    pub opens : OpensEither n (after d commands) c

  -- a clerk shows the desk after commands that lasted
  pub record ShowsAfterLives (d : Desk) (lives : List (Life g)) (x : Clerk D g) : Type 0 where
    pub commands : List Command
    pub lasted : Lasted lives commands
    pub shown : desk_of x ≡ after d commands

  -- each image that the last stop may have left opens to such a desk, and a clerk who opens what it left shows one
  pub record Survive (n : ℕ) (d : Desk) (lives : List (Life g)) (left : Image → Type 0) : Type 0 where
    pub images : (c : Image) → left c → OpensAfterLives n d lives c
    pub shown : (device : D) (x : Clerk D g) → Finds g n left device → IsOpening g device (Ok x) → (disk_of x).is_honest → ShowsAfterLives d lives x

module _ {D : Type 0} (g : Ghosts D) where
  -- whatever lives follow on a device that holds one desk, in either version
  abbrev pub LivesSurvive : Type 0
  LivesSurvive =
      (first : D) (d : Desk) (lives : List (Life g)) → HoldsEither (g.disk first) d
      → Follow (g.disk first).sectors (g.disk first).leaves lives
      → Survive (g.disk first).sectors d lives (last_left (g.disk first).leaves lives)
