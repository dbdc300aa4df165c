-- What calls on a journal leave, in one relation a clause.
use Rattle.std.specs.Prelude.{◌≡◌, ◌≤◌, ◌<◌, ◌+◌, ◌++◌, ◌⊎◌, ℕ, false, List, [], ◌∷◌, length, Option, MatchOption, Result, IsOk, OnOk, OnErr, IfOk, IfErr}
use Rattle.gate_journal.specs.{Recovery.{HasLayout, CopiesBack, Reopens, Recovers, HasRoom, AllStores, ReadsAs, Found}, Store.{IsStoreOf, Writes, IsWithin, IsBeforeOrAfter}}
use Rattle.gate_journal.specs.{Writes.{room_of, IsEdited}, claim.{Store.{gate, list_word, IsValid, IsStore, overlay, put}, Writes.writes_of}, declared.error.PageError.PageError}
use Rattle.gate_journal.specs.claim.Contents.{disk_of, device_after, content, page_count, journal_size, is_halted, IsKept, HasShapeOf, ReadErr, CommitErr}
use Rattle.gate_journal.specs.declared.{error.PageError.TheVariants.{NotAStore, DeviceFault}, journal.Journal.Journal, layout.Layout.Layout, writes.PageWrites.PageWrites}
use Rattle.sector_device.specs.{Disk.IsSynced, claim.{Disk.{Disk, Image, Touches, Nowhere}, Moments.LeavesOnly}, declared.SectorDevice.Ghosts}

-- ---- what an opening does, where the device is honest
-- of a valid list, each copy was brought back
abbrev pub CopiesListed : {T : Type 0} → ℕ → Layout → Disk → Disk → Result T PageError → Type 0
CopiesListed count layout old new result =
    count ≡ list_word old.reads 0 → IsValid layout.journal_pages layout.pages old.reads
    → CopiesBack layout.journal_pages old new result

-- of a store whose gate is open, what that left was brought home
abbrev pub BringsHome : {T : Type 0} → ℕ → Layout → Disk → Disk → Result T PageError → Type 0
BringsHome count layout old new result =
    IsSynced old → gate old.reads ≡ 165 → count ≡ list_word old.reads 0
    → IsStore layout.journal_pages layout.pages old.reads → Reopens layout.journal_pages layout.pages old new result

-- the layout that was found is the header's, and where none was, the image is one of no store
abbrev pub FindsLayout : Disk → Option Layout → Type 0
FindsLayout old found = MatchOption found (IsStoreOf old.sectors old.reads → ⊥) (λ layout. HasLayout old.reads layout)

-- of a disk whose header names the layout, the gate was closed
abbrev pub ClosesGate : {T : Type 0} → Layout → Disk → Disk → Result T PageError → Type 0
ClosesGate layout old new result =
    IsSynced old → HasLayout old.reads layout → Recovers layout.journal_pages layout.pages old new result

-- ---- pages that are to be written
-- a page that is written was changed by the step; one that isn't, nothing was
abbrev pub EditsWrite : {R : Type 0} → (List ℕ → R → List ℕ → Type 0) → ℕ → PageWrites → PageWrites → Option R → Type 0
EditsWrite step page old new result =
    MatchOption result ((Writes (writes_of old) page → ⊥) × (new ≡ old))
    (λ told. Writes (writes_of old) page × IsEdited step told (writes_of old) (writes_of new) page)

-- The writes of a page changed at most, and whatever held of their pages and numbers still does.
pub record EditsPage {R : Type 0} (step : List ℕ → R → List ℕ → Type 0) (page : ℕ) (old new : PageWrites) (result : Option R) : Type 0 where
  pub edited : EditsWrite step page old new result
  pub within : (n : ℕ) → IsWithin (writes_of old) n → IsWithin (writes_of new) n
  pub same : length (writes_of new) ≡ length (writes_of old)
  pub noted : (q : ℕ) → Writes (writes_of old) q → Writes (writes_of new) q
  pub room : room_of new ≡ room_of old

-- A refusal leaves the writes as they were, room is never lost, and one write that there is room for isn't refused.
pub record GrowsByOne {T E : Type 0} (old new : PageWrites) (result : Result T E) : Type 0 where
  pub same : OnErr result (writes_of new ≡ writes_of old)
  pub room : room_of old ≤ room_of new
  pub succeeds : length (writes_of old) < room_of old → IsOk result

-- A page and its bytes were added at the end.
pub record PushesWrite {T E : Type 0} (page : ℕ) (bytes : List ℕ) (old new : PageWrites) (result : Result T E) : Type 0 where
  pub pushed : OnOk result (writes_of new ≡ writes_of old ++ (page, bytes) ∷ [])
  pub grows : GrowsByOne old new result

-- A page has its bytes, in place where it was written, and else as a further write.
pub record PutsWrite {T E : Type 0} (page : ℕ) (bytes : List ℕ) (old new : PageWrites) (result : Result T E) : Type 0 where
  pub written : OnOk result ((P : Image) (p : ℕ)
      → overlay (writes_of new) P p ≡ put (page, bytes) (overlay (writes_of old) P) p)
  pub within : OnOk result ((n : ℕ) → page < n → IsWithin (writes_of old) n → IsWithin (writes_of new) n)
  pub more : OnOk result (length (writes_of new) ≤ length (writes_of old) + 1)
  pub again : OnOk result (Writes (writes_of old) page → length (writes_of new) ≡ length (writes_of old))
  pub noted : OnOk result ((q : ℕ) → (q ≡ page) ⊎ Writes (writes_of old) q → Writes (writes_of new) q)
  pub grows : GrowsByOne old new result

-- ---- a journal's calls
module _ {D : Type 0} {g : Ghosts D} where
  -- a commit of writes to a journal that had not halted, on an honest device: each image that a stop leaves has all of them or none
  abbrev pub LeavesAllOrNone : List (ℕ × List ℕ) → Journal D g → Journal D g → Type 0
  LeavesAllOrNone ws old new =
      (disk_of new).is_honest → is_halted old ≡ false
      → LeavesOnly (IsBeforeOrAfter (journal_size old) (page_count old) ws (content old)) (disk_of old) (disk_of new)

  -- where there is room for them and the device doesn't fail, they are committed
  abbrev pub IsCommittedWithoutFault : {T E : Type 0} → List (ℕ × List ℕ) → Journal D g → Journal D g → Result T E → Type 0
  IsCommittedWithoutFault ws old new result =
      is_halted old ≡ false → length ws ≤ journal_size old → (disk_of new).is_honest → (disk_of new).faults ≡ (disk_of old).faults
      → IsOk result

  -- An opening brings home what a commit left behind an open gate, and with a refusal hands the device back.
  pub record OpensJournal (device : D) (result : Result (Journal D g) (PageError × D)) : Type 0 where
    pub sectors : (g.disk (device_after result)).sectors ≡ (g.disk device).sectors
    pub honest : (g.disk (device_after result)).is_honest → (g.disk device).is_honest
    pub any_moment : (g.disk (device_after result)).is_honest → AllStores (g.disk device)
        → LeavesOnly (ReadsAs (g.disk device)) (g.disk device) (g.disk (device_after result))
    pub working : IfOk result (λ j. is_halted j ≡ false)
    pub room : IfOk result (λ j. HasRoom (g.disk device).sectors (journal_size j) (page_count j))
    pub found : IfOk result (λ j. (disk_of j).is_honest → Found (journal_size j) (page_count j) (g.disk device) (disk_of j))
    pub kept : IfOk result (λ j. (disk_of j).is_honest → IsKept j)
    pub passed : (g.disk (device_after result)).is_honest → OnOk result ((g.disk (device_after result)).faults ≡ (g.disk device).faults)
    pub errs : IfErr result (λ e. (e.0 ≡ NotAStore) ⊎ (e.0 ≡ DeviceFault))
    pub fault : IfErr result (λ e. (g.disk e.1).is_honest → e.0 ≡ DeviceFault → (g.disk device).faults < (g.disk e.1).faults)
    pub calm : IfErr result (λ e. (g.disk e.1).is_honest → e.0 ≡ NotAStore → (g.disk e.1).faults ≡ (g.disk device).faults)
    pub no_store : IfErr result (λ e. (g.disk e.1).is_honest → e.0 ≡ NotAStore → AllStores (g.disk device) → ⊥)
    pub untouched : IfErr result (λ e. (g.disk e.1).is_honest → e.0 ≡ NotAStore → Touches Nowhere (g.disk device) (g.disk e.1))

  -- A page is read as the journal has it, and nothing is written.
  pub record ReadsPage {T : Type 0} (p : ℕ) (page : List ℕ) (old new : Journal D g) (result : Result T PageError) : Type 0 where
    pub shape : HasShapeOf old new
    pub quiet : (disk_of new).is_honest → is_halted old ≡ false → Touches Nowhere (disk_of old) (disk_of new)
    pub same : (disk_of new).is_honest → content new ≡ content old
    pub reads : (disk_of new).is_honest → OnOk result (page ≡ content old p)
    pub ok : OnOk result ((is_halted old ≡ false) × (is_halted new ≡ false))
    pub passed : (disk_of new).is_honest → OnOk result ((disk_of new).faults ≡ (disk_of old).faults)
    pub err : IfErr result (λ e. ReadErr old new e)

  -- The writes are committed, all or none of them.
  pub record CommitsWrites {T : Type 0} (ws : List (ℕ × List ℕ)) (old new : Journal D g) (result : Result T PageError) : Type 0 where
    pub shape : HasShapeOf old new
    pub honest : (disk_of new).is_honest → (disk_of old).is_honest
    pub any_moment : LeavesAllOrNone ws old new
    pub after : (disk_of new).is_honest → OnOk result (content new ≡ overlay ws (content old))
    pub kept : (disk_of new).is_honest → OnOk result (IsKept new)
    pub ok : OnOk result ((is_halted old ≡ false) × (length ws ≤ journal_size old) × (is_halted new ≡ false))
    pub succeeds : IsCommittedWithoutFault ws old new result
    pub passed : (disk_of new).is_honest → OnOk result ((disk_of new).faults ≡ (disk_of old).faults)
    pub err : IfErr result (λ e. CommitErr (length ws) old new e)
