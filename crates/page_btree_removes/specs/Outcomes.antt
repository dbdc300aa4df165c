-- What a remove leaves, where the device is honest and the pages hold what they may.
use Rattle.std.specs.{FinMap.{contains_key, remove as remove_key}, Prelude.{◌≡◌, ◌≢◌, ◌≤◌, ℕ, Bool, true, List, Option, Some, Result, OnOk, IfOk, IfSome}}
use Rattle.page_btree_gets.specs.{Editing.{IsAlike, LeafErr, WritesOne, Frees}, claim.{Errors.{RemoveErr, reach_in}, Keys.KeyMap, Map.InTxn}, declared.error.TreeError.TreeError}
use Rattle.{page_btree_removes.specs.{Removing.{CanRemove, Removes}, Sparing.IsLeafTaken, declared.removes.Removed.Removed}, page_store.specs.Outcomes.KeepsRoot}
use Rattle.page_store.specs.{Reading.ReadsOnly, claim.Transactions.{stored, disk_in, txn_pages, txn_root, over, free_over}, declared.{pages.Pages.Pages, txn.Txn.Txn}}
use Rattle.sector_device.specs.{claim.Disk.Image, declared.SectorDevice.Ghosts}

-- the tree at a root is no nearer to a seventh level than another was
abbrev pub IsNoNearer : Image → ℕ → Image → ℕ → Type 0
IsNoNearer P p Q q = reach_in Q q ≤ reach_in P p

module _ {D : Type 0} {g : Ghosts D} where
  -- ---- a remove
  -- the transaction reads the map without the key, and whether it was there is told
  abbrev pub RemovesKey : Txn → Txn → Pages D g → Pages D g → List ℕ → Result Bool TreeError → Type 0
  RemovesKey before after old new key result =
      (disk_in new).is_honest → (m : KeyMap) → InTxn before (stored old) m
      → IfOk result (λ had. InTxn after (stored old) (remove_key m key) × (had ≡ contains_key m key)
      × IsNoNearer (over before (stored old)) (txn_root before) (over after (stored old)) (txn_root after))

  -- the same where an edit of its leaf was enough
  abbrev pub RemovesSpareKey : Txn → Txn → Pages D g → Pages D g → List ℕ → Result (Option Bool) TreeError → Type 0
  RemovesSpareKey before after old new key result =
      (disk_in new).is_honest → (m : KeyMap) → InTxn before (stored old) m
      → IfOk result (λ did. IfSome did (λ had. InTxn after (stored old) (remove_key m key) × (had ≡ contains_key m key)
      × IsNoNearer (over before (stored old)) (txn_root before) (over after (stored old)) (txn_root after)))

  -- the same in the tree at a page of these bytes
  abbrev pub RemovesKeyAt : Txn → Txn → Pages D g → Pages D g → ℕ → ℕ → List ℕ → List ℕ → Result Removed TreeError → Type 0
  RemovesKeyAt before after old new level page bytes key result =
      (disk_in new).is_honest → bytes ≡ over before (stored old) page
      → (can : CanRemove (txn_pages before) (over before (stored old)) (free_over before (stored old)) level key page)
      → IfOk result (λ did. Removes (over after (stored old)) (free_over after (stored old)) can did)

  -- a remove as its callers see it
  pub record RemovesRow (before after : Txn) (old new : Pages D g) (key : List ℕ) (result : Result Bool TreeError) : Type 0 where
    pub reading : ReadsOnly (RemoveErr before old new) old new result
    pub pages : txn_pages after ≡ txn_pages before
    pub remove : RemovesKey before after old new key result
    pub costs : Frees 6 before after result

  -- a row is taken out of the leaf at a page by an edit of it, which isn't made where that wouldn't be enough
  pub record TakesAtLeaf (page : ℕ) (before after : Txn) (old new : Pages D g) (key : List ℕ) (result : Result (Option Bool) TreeError) : Type 0 where
    pub reading : ReadsOnly (LeafErr page before old new) old new result
    pub rooted : KeepsRoot before after
    pub taken : (disk_in new).is_honest → IfOk result (λ did. IfSome did (λ had. IsLeafTaken before after (stored old) page key had))
    pub kept : IfOk result (λ did. (did ≡ Some true → ⊥) → IsAlike before after)
    pub costs : WritesOne before after result

-- one page is written or given back, and the others are as they were
pub record ChangesPage {A E : Type 0} (p : ℕ) (before after : Txn) (result : Result A E) : Type 0 where
  pub rooted : KeepsRoot before after
  pub elsewhere : OnOk result ((P : Image) (q : ℕ) → q ≢ p → over after P q ≡ over before P q)
  pub costs : Frees 1 before after result
