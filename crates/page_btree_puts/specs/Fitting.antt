-- What a put needs that edits a leaf alone.
use Rattle.std.specs.{FinMap.{find, put}, Prelude.{◌≡◌, ◌≢◌, ℕ, List, Option, None, is_some, true, Result, IfOk, IfSome}}
use Rattle.page_btree_gets.specs.{Editing.{IsAlike, WritesOne}, declared.error.TreeError.{TreeError, TheVariants.{DeviceFault, NotAStore, Halted, Memory}}, node.Searching.IsBelow}
use Rattle.page_btree_gets.specs.node.{claim.{Entries.Entry, Node.IsNode, Places.{key_cmp, Rises}}, declared.{edit.RowPut.RowPut, search.RowNear.RowNear}}
use Rattle.page_store.specs.{Outcomes.KeepsRoot, Reading.ReadsOnly, claim.{Chain.{IsIn, AreFree}, Transactions.{stored, disk_in, has_halted, HasFailed, over, free_over}}}
use Rattle.{page_store.specs.declared.{pages.Pages.Pages, txn.Txn.Txn}, sector_device.specs.{claim.Disk.Image, declared.SectorDevice.Ghosts}}

-- a row was put into the leaf at a page, where there is one and each key before a place is below its own
abbrev pub IsLeafPut : Txn → Txn → Image → ℕ → RowNear → List ℕ → List ℕ → RowPut → Type 0
IsLeafPut old new S page from key value did =
    (es : List Entry) → IsNode (over old S page) (record { level = 0; entries = es }) → Rises es → IsBelow key es from.k from.at
    → (did.had ≡ is_some (find key_cmp key es)) × IsNode (over new S page) (record { level = 0; entries = put key_cmp key value es })
    × IsBelow key (put key_cmp key value es) did.near.k did.near.at × ((q : ℕ) → q ≢ page → over new S q ≡ over old S q)
    × ((n : ℕ) → AreFree n (free_over old S) → (IsIn page (free_over old S) → ⊥) → free_over new S ≡ free_over old S)

module _ {D : Type 0} {g : Ghosts D} where
  -- why none is put there
  abbrev pub LeafPutErr : ℕ → RowNear → List ℕ → Txn → Pages D g → Pages D g → TreeError → Type 0
  LeafPutErr page from key t old new DeviceFault = HasFailed old new
  LeafPutErr page from key t old new NotAStore = (disk_in new).is_honest → (es : List Entry)
      → IsNode (over t (stored old) page) (record { level = 0; entries = es }) → Rises es → IsBelow key es from.k from.at → ⊥
  LeafPutErr page from key t old new Halted = has_halted old ≡ true
  LeafPutErr page from key t old new Memory = Unit {0}
  LeafPutErr page from key t old new _ = ⊥

  -- a put into the leaf at a page by an edit of it, which isn't made where the row doesn't fit
  pub record PutsAtLeaf (page : ℕ) (from : RowNear) (before after : Txn) (old new : Pages D g) (key value : List ℕ) (result : Result (Option RowPut) TreeError) : Type 0 where
    pub reading : ReadsOnly (LeafPutErr page from key before old new) old new result
    pub rooted : KeepsRoot before after
    pub put : (disk_in new).is_honest → IfOk result (λ did. IfSome did (λ put. IsLeafPut before after (stored old) page from key value put))
    pub kept : IfOk result (λ did. did ≡ None → IsAlike before after)
    pub costs : WritesOne before after result
