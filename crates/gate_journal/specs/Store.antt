-- What no promise rests on, beside claim/Store.antt.
use Rattle.std.{specs.Prelude.{◌≡◌, ◌≢◌, ◌⊎◌, ◌≤◌, ◌<◌, ◌+◌, ℕ, List, [], ◌∷◌, length}, proofs.Common.get_or}
use Rattle.{gate_journal.specs.claim.Store.{IsStore, Opens, first_copy, gate, home, list_word, overlay}, sector_device.specs.{Disk.IsSynced, claim.Disk.{Disk, Image}}}

-- it is one of a store with so many sectors
pub record IsStoreOf (sectors : ℕ) (c : Image) : Type 0 where
  pub J : ℕ
  pub n : ℕ
  pub whole : home J + n ≡ sectors
  pub store : IsStore J n c

-- the gate is closed, and all is on the disk
pub record IsSettled (J n : ℕ) (disk : Disk) : Type 0 where
  pub store : IsStore J n disk.reads
  pub closed : gate disk.reads ≢ 165
  pub synced : IsSynced disk

-- the list and the copies are those of the writes
pub record Stages (J : ℕ) (ws : List (ℕ × List ℕ)) (c : Image) : Type 0 where
  pub count : list_word c 0 ≡ length ws
  pub page : (k : ℕ) → k < length ws → list_word c (k + 1) ≡ (get_or ws k (0, [])).0
  pub copy : (k : ℕ) → k < length ws → c (first_copy J + k) ≡ (get_or ws k (0, [])).1

-- the sectors of the list and the copies
abbrev pub Staging : ℕ → ℕ → Type 0
Staging J i = (2 ≤ i) × (i < home J)

-- one of the writes is of this page
abbrev pub Writes : List (ℕ × List ℕ) → ℕ → Type 0
Writes [] p = ⊥
Writes (w ∷ ws) p = (p ≡ w.0) ⊎ Writes ws p

-- no page is written twice
abbrev pub IsOnce : List (ℕ × List ℕ) → Type 0
IsOnce ws = (j k : ℕ) → j < k → k < length ws → (get_or ws j (0, [])).0 ≢ (get_or ws k (0, [])).0

-- the numbers of the pages, in the order of the writes
pub record AreNumbers (ns : List ℕ) (ws : List (ℕ × List ℕ)) : Type 0 where
  pub long : length ns ≡ length ws
  pub each : (k : ℕ) → k < length ws → get_or ns k 0 ≡ (get_or ws k (0, [])).0

-- no number stands twice
abbrev pub AreApart : List ℕ → Type 0
AreApart ns = (j k : ℕ) → j < k → k < length ns → get_or ns j 0 ≢ get_or ns k 0

-- each write is of one of n pages
abbrev pub IsWithin : List (ℕ × List ℕ) → ℕ → Type 0
IsWithin ws n = (k : ℕ) → k < length ws → (get_or ws k (0, [])).0 < n

-- the sectors of the written pages
abbrev pub Homes : ℕ → List (ℕ × List ℕ) → ℕ → Type 0
Homes at ws i = (p : ℕ) × Writes ws p × (i ≡ at + p)

-- the pages stay, or they are overlaid by the writes
abbrev pub IsBeforeOrAfter : ℕ → ℕ → List (ℕ × List ℕ) → Image → Image → Type 0
IsBeforeOrAfter J n ws P c = Opens J n P c ⊎ Opens J n (overlay ws P) c
