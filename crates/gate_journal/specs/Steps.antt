-- What each step of a commit leaves.
use Rattle.std.{specs.Prelude.{◌≡◌, ◌≤◌, ◌<◌, ◌+◌, ℕ, List, [], length, Result, OnOk}, proofs.Common.{get_or, zero, suc}}
use Rattle.gate_journal.specs.{Store.{Stages, IsSettled, IsBeforeOrAfter, IsWithin}, claim.Store.{home, overlay, pages, gate, list_word}, declared.layout.Layout.Layout}
use Rattle.sector_device.specs.{Disk.{IsSynced, HasCause, Step}, claim.{Disk.Disk, Moments.LeavesOnly}}

-- n sectors from the first
abbrev pub Span : ℕ → ℕ → ℕ → Type 0
Span first n i = (first ≤ i) × (i < first + n)

-- the copies of the first n writes
abbrev pub HasCopies : ℕ → List (ℕ × List ℕ) → ℕ → Disk → Type 0
HasCopies first ws n disk = (k : ℕ) → k < n → disk.reads (first + k) ≡ (get_or ws k (0, [])).1

-- the pages from a sector on are those of old, overlaid by the writes
abbrev pub HasHomes : ℕ → List (ℕ × List ℕ) → Disk → Disk → Type 0
HasHomes at ws old disk = (p : ℕ) → disk.reads (at + p) ≡ overlay ws (λ q. old.reads (at + q)) p

-- the gate has this byte, and all is on the disk
pub record HasGate (byte : ℕ) (disk : Disk) : Type 0 where
  pub stands : gate disk.reads ≡ byte
  pub synced : IsSynced disk

-- the words of the list: the count, then the pages
abbrev pub want : List (ℕ × List ℕ) → ℕ → ℕ
want ws zero = length ws
want ws (suc k) = (get_or ws k (0, [])).0

-- the first n words stand in the list
abbrev pub HasList : List (ℕ × List ℕ) → ℕ → Disk → Type 0
HasList ws n disk = (k : ℕ) → k < n → k ≤ length ws → list_word disk.reads k ≡ want ws k

-- list and copies stand, on the disk
pub record IsStaged (J : ℕ) (ws : List (ℕ × List ℕ)) (disk : Disk) : Type 0 where
  pub stages : Stages J ws disk.reads
  pub synced : IsSynced disk

pub record IsHome (at : ℕ) (ws : List (ℕ × List ℕ)) (old disk : Disk) : Type 0 where
  pub homes : HasHomes at ws old disk
  pub synced : IsSynced disk

-- A commit: at any moment an image stands for the pages before or after, at Ok for those after.
pub record Commits {T E : Type 0} (J n : ℕ) (ws : List (ℕ × List ℕ)) (old new : Disk) (result : Result T E) : Type 0 where
  pub was_honest : old.is_honest
  pub any_moment : LeavesOnly (IsBeforeOrAfter J n ws (pages J old.reads)) old new
  pub faults : old.faults ≤ new.faults
  pub cause : HasCause old new result
  pub settled : OnOk result (IsSettled J n new)
  pub after : OnOk result (pages J new.reads ≡ overlay ws (pages J old.reads))

-- ---- calls on a device, honest or not
-- The size stays; an honest device had these sectors written at most, and at Ok is left with what has Q.
pub record TakesStep {T E : Type 0} (S : ℕ → Type 0) (Q : Disk → Type 0) (old new : Disk) (result : Result T E) : Type 0 where
  pub sectors : new.sectors ≡ old.sectors
  pub model : new.is_honest → Step S Q old new result

-- so many writes may be committed to a store of this layout, whose gate is closed where the device is honest
pub record MayCommit (layout : Layout) (ws : List (ℕ × List ℕ)) (disk : Disk) : Type 0 where
  pub few : length ws ≤ layout.journal_pages
  pub room : home layout.journal_pages + layout.pages ≤ disk.sectors
  pub within : IsWithin ws layout.pages
  pub settled : disk.is_honest → IsSettled layout.journal_pages layout.pages disk

-- they were: the size stays, and an honest device has all of them or none
pub record CommitsOn {T E : Type 0} (layout : Layout) (ws : List (ℕ × List ℕ)) (old new : Disk) (result : Result T E) : Type 0 where
  pub sectors : new.sectors ≡ old.sectors
  pub model : new.is_honest → Commits layout.journal_pages layout.pages ws old new result
