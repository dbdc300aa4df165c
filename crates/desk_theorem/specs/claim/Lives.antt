-- The claim: any number of lives of a store.
use Rattle.std.specs.Prelude.{◌≡◌, ◌≤◌, ℕ, List, [], ◌∷◌}
use Rattle.{desk_theorem.specs.claim.{Device.{IsStoreAs, OnDevice}, OneLife.{Came, LifeHolds}}, desk_theorem_lives.specs.claim.Versions.Store}
use Rattle.{http_desk.specs.seats.claim.Streams.Traffic, sector_device.specs.{claim.Disk.{AgreeOff, Disk, Image, Nowhere}, declared.SectorDevice.Ghosts}}

-- a stop leaves of a device what it reads, as it does of one that was synced
abbrev pub LeavesWhatItReads : Disk → Type 0
LeavesWhatItReads disk = (c : Image) → disk.leaves c → AgreeOff Nowhere disk.reads c

module _ {A P Q : Type 0} (streams : A → Traffic P Q) where
  -- A life: what came in it, the image that its device read as it was opened, one that a stop may have left of it then, and how often the
  -- device had failed at both.
  pub record Life : Type 0 where
    pub came : Came streams
    pub held : Image
    pub left : Image
    pub before : ℕ
    pub after : ℕ

  -- of whatever store it held
  abbrev pub IsLived : (sectors : ℕ) → Life → Type 0
  IsLived sectors life = (s : Store) → IsStoreAs sectors s life.held
      → (life.before ≤ life.after) × ((e : Store) × LifeHolds streams life.came life.before life.after s e × IsStoreAs sectors e life.left)

  -- lives, one after the other, each on what a stop left of the one before
  abbrev pub AreLived : (sectors : ℕ) → Image → List Life → Image → Type 0
  AreLived sectors held [] left = left ≡ held
  AreLived sectors held (life ∷ lives) left = (life.held ≡ held) × IsLived sectors life × AreLived sectors life.left lives left

  -- from the store s on and to the store e: each life begins with the store that the stop before it left, 'and every stop within a write
  -- followed by recovery'
  abbrev pub EachHolds : Store → List Life → Store → Type 0
  EachHolds s [] e = e ≡ s
  EachHolds s (life ∷ lives) e = (next : Store) × LifeHolds streams life.came life.before life.after s next × EachHolds next lives e

  -- The sentence: such lives are those of the store that was held first, and what the last stop left is the store that they lead to.
  abbrev pub PlanDesk : Type 0
  PlanDesk = (sectors : ℕ) (held left : Image) (lives : List Life) → AreLived sectors held lives left → (s : Store) → IsStoreAs sectors s held
      → (e : Store) × EachHolds s lives e × IsStoreAs sectors e left

  -- the life of a device, by one image that a stop leaves of it
  abbrev pub life_on : {D : Type 0} (g : Ghosts D) → Came streams → (old new : D) → Image → Life
  life_on g came old new left = record { came = came; held = (g.disk old).reads; left = left; before = (g.disk old).faults; after = (g.disk new).faults }

  -- one life on a device that was so as it was opened is a life on what it read
  abbrev pub LivesOnDevice : {D : Type 0} → Ghosts D → Type 0
  LivesOnDevice {D} g = (came : Came streams) (old new : D) → LeavesWhatItReads (g.disk old) → OnDevice (LifeHolds streams came) (g.disk old) (g.disk new)
      → (g.disk new).is_honest → (left : Image) → (g.disk new).leaves left → IsLived (g.disk old).sectors (life_on g came old new left)
