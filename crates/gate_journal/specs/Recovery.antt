-- What an opening finds, and what it leaves.
use Rattle.std.specs.Prelude.{◌≡◌, ◌⊎◌, ◌≤◌, ◌<◌, ◌+◌, ℕ, Bool, IsTrue, List, Result, OnOk, IsErrOf, IfOk, IfErr}
use Rattle.gate_journal.specs.{Steps.HasHomes, Store.{Homes, IsStoreOf, IsSettled}, claim.Store.{home, header_of, word, list_word, copies, IsStore, Opens, pages}}
use Rattle.{gate_journal.specs.declared.{error.PageError.{PageError, TheVariants.{NotAStore, DeviceFault}}, layout.Layout.Layout}, sector_device.specs.Disk.HasCause}
use Rattle.sector_device.specs.claim.{Disk.{Disk, Image, Touches, Nowhere}, Moments.LeavesOnly}

-- the sizes are in their limits, and the parts fill the sectors
pub record HasRoom (sectors J n : ℕ) : Type 0 where
  pub least_journal : 256 ≤ J
  pub most_journal : J ≤ 65536
  pub least_pages : 64 ≤ n
  pub whole : home J + n ≡ sectors

-- so many pages fit the list of a store of this layout, on so many sectors
pub record HasListOf (layout : Layout) (count sectors : ℕ) : Type 0 where
  pub few : count ≤ layout.journal_pages
  pub limit : layout.journal_pages ≤ 65536
  pub room : home layout.journal_pages + layout.pages ≤ sectors

-- the header names this layout
abbrev pub HasLayout : Image → Layout → Type 0
HasLayout c layout = c 0 ≡ header_of layout.journal_pages layout.pages

pub record CopiesBack {T : Type 0} (J : ℕ) (old new : Disk) (result : Result T PageError) : Type 0 where
  pub touches : Touches (Homes (home J) (copies J old.reads)) old new
  pub cause : HasCause old new result
  pub only : IfErr result (λ e. e ≡ DeviceFault)
  pub done : OnOk result (HasHomes (home J) (copies J old.reads) old new)

abbrev pub Copied : ℕ → ℕ → Disk → Disk → Type 0
Copied from to old disk = disk.reads to ≡ old.reads from

-- the pages that the list names are pages of the store
abbrev pub NamesPages : ℕ → ℕ → Image → Type 0
NamesPages count n c = (k : ℕ) → k < count → list_word c (k + 1) < n

-- an answer tells exactly whether P
abbrev pub Tells : Bool → Type 0 → Type 0
Tells answer P = (IsTrue answer → P) × (P → IsTrue answer)

-- the first m words of a sector of the list do so; its first word is the from-th
abbrev pub SectorNames : ℕ → ℕ → ℕ → List ℕ → ℕ → Type 0
SectorNames from count n sector m = (j : ℕ) → j < m → 1 ≤ from + j → from + j ≤ count → word sector j < n

-- What bringing the copies home leaves: at any moment the same pages.
pub record Reopens {T : Type 0} (J n : ℕ) (old new : Disk) (result : Result T PageError) : Type 0 where
  pub any_moment : LeavesOnly (Opens J n (pages J old.reads)) old new
  pub cause : HasCause old new result
  pub only : IfErr result (λ e. e ≡ DeviceFault)
  pub settled : OnOk result (IsSettled J n new)
  pub after : OnOk result (pages J new.reads ≡ pages J old.reads)

-- each image that a stop may leave is one of a store
abbrev pub AllStores : Disk → Type 0
AllStores disk = (c : Image) → disk.leaves c → IsStoreOf disk.sectors c

-- the image stands for the pages of one that a stop might have left
pub record ReadsAs (old : Disk) (c : Image) : Type 0 where
  pub was : Image
  pub left : old.leaves was
  pub J : ℕ
  pub n : ℕ
  pub whole : home J + n ≡ old.sectors
  pub store : IsStore J n was
  pub opens : Opens J n (pages J was) c

-- What closing the gate leaves: at any moment the same pages.
pub record Recovers {T : Type 0} (J n : ℕ) (old new : Disk) (result : Result T PageError) : Type 0 where
  pub was_honest : old.is_honest
  pub faults : old.faults ≤ new.faults
  pub any_moment : IsStore J n old.reads → LeavesOnly (Opens J n (pages J old.reads)) old new
  pub passed : OnOk result (new.faults ≡ old.faults)
  pub faulted : IsErrOf result DeviceFault → old.faults < new.faults
  pub refused : IsErrOf result NotAStore → IsStore J n old.reads → ⊥
  pub calm : IsErrOf result NotAStore → new.faults ≡ old.faults
  pub untouched : IsErrOf result NotAStore → Touches Nowhere old new
  pub settled : OnOk result (IsSettled J n new)
  pub after : OnOk result (pages J new.reads ≡ pages J old.reads)

-- the pages found are those of an image that a stop might have left
pub record Found (J n : ℕ) (old new : Disk) : Type 0 where
  pub was : Image
  pub left : old.leaves was
  pub header : was 0 ≡ header_of J n
  pub same : pages J new.reads ≡ pages J was

-- What an opening leaves.
pub record Starts (old new : Disk) (result : Result Layout PageError) : Type 0 where
  pub was_honest : old.is_honest
  pub faults : old.faults ≤ new.faults
  pub any_moment : AllStores old → LeavesOnly (ReadsAs old) old new
  pub passed : OnOk result (new.faults ≡ old.faults)
  pub faulted : IsErrOf result DeviceFault → old.faults < new.faults
  pub refused : IsErrOf result NotAStore → AllStores old → ⊥
  pub calm : IsErrOf result NotAStore → new.faults ≡ old.faults
  pub untouched : IsErrOf result NotAStore → Touches Nowhere old new
  pub settled : IfOk result (λ l. IsSettled l.journal_pages l.pages new)
  pub found : IfOk result (λ l. Found l.journal_pages l.pages old new)

-- ---- calls of an opening, on a device that may lie
-- The device was only looked at; an honest one gave at Ok an answer that has Q.
pub record LooksAt {T E : Type 0} (Q : T → Type 0) (old new : Disk) (result : Result T E) : Type 0 where
  pub sectors : new.sectors ≡ old.sectors
  pub model : new.is_honest → Touches Nowhere old new × HasCause old new result
  pub told : new.is_honest → IfOk result Q

-- The size stays, a refusal is one of two, and an honest device, which was honest before, is left with P.
pub record OpensSo {T : Type 0} (P : Disk → Disk → Result T PageError → Type 0) (old new : Disk) (result : Result T PageError) : Type 0 where
  pub sectors : new.sectors ≡ old.sectors
  pub honest : new.is_honest → old.is_honest
  pub errs : IfErr result (λ e. (e ≡ NotAStore) ⊎ (e ≡ DeviceFault))
  pub model : new.is_honest → P old new result
