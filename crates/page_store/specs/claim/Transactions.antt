-- Pages and transactions over them, as the layers above see them.
use Rattle.std.specs.Prelude.{◌≡◌, ◌≤◌, ◌<◌, ℕ, Bool, true, false, List, Result, Ok, Err, length}
use Rattle.gate_journal.specs.claim.{Contents.{content, disk_of, device_of, page_count, journal_size, is_halted, HasShapeOf, HasHalted, IsKept as kept}, Store.overlay}
use Rattle.gate_journal.specs.{claim.Writes.writes_of, declared.error.PageError.{PageError, TheVariants.{NotAStore, DeviceFault, Halted, TooManyPages, NoPages}}}
use Rattle.{page_store.specs.{claim.Chain.{chain, AreFree}, declared.{pages.Pages.Pages, txn.{Prepared.Prepared, Txn.Txn}}}, sector_device.specs.declared.SectorDevice.Ghosts}
use Rattle.sector_device.specs.claim.Disk.{Disk, Image, Touches, Nowhere}

-- ---- a transaction, over the pages P that are stored
-- of how many pages the store is
abbrev pub txn_pages : Txn → ℕ
txn_pages t = t.pages

abbrev pub txn_writes : Txn → ℕ
txn_writes t = length (writes_of t.writes)

abbrev pub txn_root : Txn → ℕ
txn_root t = t.root

abbrev pub txn_free : Txn → ℕ
txn_free t = t.free

-- the pages as it reads them, and those that are free
abbrev pub over : Txn → Image → Image
over t P = overlay (writes_of t.writes) P

abbrev pub free_over : Txn → Image → List ℕ
free_over t P = chain (overlay (writes_of t.writes) P) t.first t.free

-- ---- one that is prepared
abbrev pub prepared_pages : Prepared → ℕ
prepared_pages p = p.pages

abbrev pub prepared_writes : Prepared → List (ℕ × List ℕ)
prepared_writes p = writes_of p.writes

-- the pages after its commit
abbrev pub after : Prepared → Image → Image
after p P = overlay (writes_of p.writes) P

module _ {D : Type 0} {g : Ghosts D} where
  abbrev pub stored : Pages D g → Image
  stored ps = content ps.journal

  abbrev pub disk_in : Pages D g → Disk
  disk_in ps = disk_of ps.journal

  abbrev pub device_in : Pages D g → D
  device_in ps = device_of ps.journal

  abbrev pub count_of : Pages D g → ℕ
  count_of ps = page_count ps.journal

  abbrev pub journal_of : Pages D g → ℕ
  journal_of ps = journal_size ps.journal

  abbrev pub has_halted : Pages D g → Bool
  has_halted ps = is_halted ps.journal

  -- device and pages are the same
  abbrev pub IsSame : Pages D g → Pages D g → Type 0
  IsSame old new = new.journal ≡ old.journal

  -- a call that read at most
  pub record IsQuiet (old new : Pages D g) : Type 0 where
    pub count : page_count new.journal ≡ page_count old.journal
    pub journal : journal_size new.journal ≡ journal_size old.journal
    pub honest : (disk_of new.journal).is_honest → (disk_of old.journal).is_honest
    pub same : (disk_of new.journal).is_honest → content new.journal ≡ content old.journal
    pub moves : (disk_of new.journal).is_honest → is_halted old.journal ≡ false → Touches Nowhere (disk_of old.journal) (disk_of new.journal)
    -- from a fault on nothing changes
    pub still : is_halted old.journal ≡ true → new.journal ≡ old.journal
    -- only a fault halts, and each one does
    pub rose : is_halted old.journal ≡ false → is_halted new.journal ≡ true
        → (disk_of new.journal).is_honest → (disk_of old.journal).faults < (disk_of new.journal).faults
    pub calm : is_halted new.journal ≡ false → (disk_of new.journal).is_honest → (disk_of new.journal).faults ≡ (disk_of old.journal).faults

  -- a fault, and from then on only refusals
  abbrev pub HasFailed : Pages D g → Pages D g → Type 0
  HasFailed old new = HasHalted old.journal new.journal

  -- a call that read at most, and met no fault
  pub record Passed (old new : Pages D g) : Type 0 where
    pub quiet : IsQuiet old new
    pub halted : is_halted new.journal ≡ is_halted old.journal
    pub faults : (disk_of new.journal).is_honest → (disk_of new.journal).faults ≡ (disk_of old.journal).faults

  -- why a page is not read
  abbrev pub ReadErr : Pages D g → Pages D g → PageError → Type 0
  ReadErr old new DeviceFault = HasHalted old.journal new.journal
  ReadErr old new Halted = is_halted old.journal ≡ true
  ReadErr old new _ = ⊥

  abbrev pub device_after : Result (Pages D g) (PageError × D) → D
  device_after (Ok ps) = device_of ps.journal
  device_after (Err e) = e.1

  -- why no page is taken
  abbrev pub TakeErr : Txn → Pages D g → Pages D g → PageError → Type 0
  TakeErr t old new NoPages = t.free ≡ 0
  TakeErr t old new DeviceFault = HasHalted old.journal new.journal
  TakeErr t old new Halted = is_halted old.journal ≡ true
  TakeErr t old new NotAStore = (disk_of new.journal).is_honest → AreFree t.pages (free_over t (content old.journal)) → ⊥
  TakeErr t old new _ = ⊥

  -- why so many pages are not committed
  abbrev pub CommitErr : ℕ → Pages D g → Pages D g → PageError → Type 0
  CommitErr n old new DeviceFault = HasHalted old.journal new.journal × (n ≤ journal_size old.journal)
  CommitErr n old new Halted = (is_halted old.journal ≡ true) × (new.journal ≡ old.journal)
  CommitErr n old new TooManyPages = (is_halted old.journal ≡ false) × (journal_size old.journal < n) × (new.journal ≡ old.journal)
  CommitErr n old new _ = ⊥

  abbrev pub HasShape : Pages D g → Pages D g → Type 0
  HasShape old new = HasShapeOf old.journal new.journal

  -- each image that a stop now may leave stands for the pages
  abbrev pub IsKept : Pages D g → Type 0
  IsKept ps = kept ps.journal
