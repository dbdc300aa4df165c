-- Leaves that are known, and puts by them.
use Rattle.std.specs.{FinMap.{insert, contains_key, get as row_at}, Prelude.{◌≡◌, ◌≢◌, ◌<◌, ℕ, Bool, List, Option, true, Result, IfOk, IfSome}}
use Rattle.page_btree_gets.specs.{Getting.{CanGetAt, IsCopied}, Leading.{LeadsTo, LeadsAll, end_of}, claim.{Errors.level_in, Keys.KeyMap, Map.InTxn}, node.Searching.IsBelow}
use Rattle.page_btree_gets.specs.{declared.error.TreeError.{TreeError, TheVariants.{DeviceFault, NotAStore, Halted, NoPages, TooDeep, Memory}}, node.claim.Entries.Entry}
use Rattle.{page_btree_gets.specs.node.claim.Node.IsNode, page_btree_puts.specs.declared.finger.{Finger.Finger, Fingers.Fingers}, page_store.specs.declared.pages.Pages.Pages}
use Rattle.page_store.specs.{claim.Transactions.{stored, disk_in, has_halted, HasFailed, txn_pages, txn_root, txn_free, over}, declared.txn.Txn.Txn}
use Rattle.sector_device.specs.{claim.Disk.Image, declared.SectorDevice.Ghosts}

-- keys from the finger's on, as far as they reach, belong to its leaf, where each key before its place is below them
pub record IsPlaced (t : Txn) (S : Image) (f : Finger) : Type 0 where
  pub leads : LeadsAll (over t S) (level_in (over t S) (txn_root t)) (txn_root t) f.low (end_of f.reach) f.page
  pub after : (es : List Entry) → IsNode (over t S f.page) (record { level = 0; entries = es }) → IsBelow f.low es f.near.k f.near.at

-- where a leaf is known
abbrev pub StandsIn : Txn → Image → Finger → Type 0
StandsIn t S f = f.page ≢ 0 → IsPlaced t S f

-- the finger's leaf is that of a key, below a root, and keys from it on belong there as far as they reach
pub record IsReached (t : Txn) (S : Image) (root : ℕ) (key : List ℕ) (f : Finger) : Type 0 where
  pub leads : (d : ℕ) → CanGetAt (txn_pages t) (over t S) d key root → LeadsTo (over t S) d root key f.page
  pub all : LeadsAll (over t S) (level_in (over t S) root) root key (end_of f.reach) f.page
  pub after : (es : List Entry) → IsNode (over t S f.page) (record { level = 0; entries = es }) → IsBelow key es f.near.k f.near.at

-- The transaction reads the map with the row, and whether the key was there is told. The finger stands, and so does another at another
-- leaf, unless nodes were cut.
pub record IsPutBy (f : Finger) (before after : Txn) (S : Image) (m : KeyMap) (row : Entry) (had : Bool) : Type 0 where
  pub reads : InTxn after S (insert m row.0 row.1)
  pub had_is : had ≡ contains_key m row.0
  pub stands : StandsIn after S f
  pub others : f.page ≢ 0 → (other : Finger) → other.page ≢ f.page → StandsIn before S other → StandsIn after S other

-- ---- two fingers
-- both stand
abbrev pub Stand : Txn → Image → Fingers → Type 0
Stand t S fs = StandsIn t S fs.first × StandsIn t S fs.second

-- the second is at another leaf than the first
abbrev pub IsApart : Fingers → Fingers → Type 0
IsApart was fs = (was.first.page ≢ 0) × (was.second.page ≢ was.first.page) × (fs.second ≡ was.second)

module _ {D : Type 0} {g : Ghosts D} where
  -- where the finger stood, the row was put
  abbrev pub PutsRowBy : Finger → Finger → Txn → Txn → Pages D g → Pages D g → Entry → Result Bool TreeError → Type 0
  PutsRowBy was f before after old new row result =
      (disk_in new).is_honest → (m : KeyMap) → InTxn before (stored old) m → StandsIn before (stored old) was
      → IfOk result (λ had. IsPutBy f before after (stored old) m row had)

  -- the same where an edit of its leaf was enough
  abbrev pub PutsFittingRow : Finger → Finger → Txn → Txn → Pages D g → Pages D g → Entry → Result (Option Bool) TreeError → Type 0
  PutsFittingRow was f before after old new row result =
      (disk_in new).is_honest → (m : KeyMap) → InTxn before (stored old) m → StandsIn before (stored old) was
      → IfOk result (λ did. IfSome did (λ had. IsPutBy f before after (stored old) m row had))

  -- why a row isn't put by a finger that stood
  abbrev pub PutByErr : Finger → Txn → Pages D g → Pages D g → TreeError → Type 0
  PutByErr was t old new DeviceFault = HasFailed old new
  PutByErr was t old new NotAStore = (disk_in new).is_honest → (m : KeyMap) → InTxn t (stored old) m → StandsIn t (stored old) was → ⊥
  PutByErr was t old new Halted = has_halted old ≡ true
  PutByErr was t old new NoPages = txn_free t < 6
  PutByErr was t old new TooDeep = (disk_in new).is_honest → level_in (over t (stored old)) (txn_root t) ≡ 5
  PutByErr was t old new Memory = Unit {0}

  -- ---- a look-up
  -- where `says` holds of the stored pages, the value of a key was copied, or there is none
  abbrev pub GetsWhere : (Image → Type 0) → Txn → Pages D g → Pages D g → List ℕ → List ℕ → Result (Option ℕ) TreeError → Type 0
  GetsWhere says t old new key into result =
      (disk_in new).is_honest → (m : KeyMap) → InTxn t (stored old) m → says (stored old)
      → IfOk result (λ found. IsCopied found into (row_at m key))

  -- why it isn't read
  abbrev pub GetWhereErr : (Image → Type 0) → Txn → Pages D g → Pages D g → TreeError → Type 0
  GetWhereErr says t old new DeviceFault = HasFailed old new
  GetWhereErr says t old new NotAStore = (disk_in new).is_honest → (m : KeyMap) → InTxn t (stored old) m → says (stored old) → ⊥
  GetWhereErr says t old new Halted = has_halted old ≡ true
  GetWhereErr says t old new _ = ⊥
