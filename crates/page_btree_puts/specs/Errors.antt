-- Why a step of a put is refused.
use Rattle.std.specs.Prelude.{◌≡◌, ◌<◌, ◌≤◌, ℕ, List, length}
use Rattle.page_btree_gets.specs.{Getting.ReadsErr, declared.error.TreeError.{TreeError, TheVariants.{NotAStore, NoPages, TooDeep, Memory}}, node.claim.Entries.Entry}
use Rattle.{page_btree_gets.specs.node.claim.Node.{Node, IsNode}, page_store.specs.claim.{Chain.AreFree, Transactions.{stored, disk_in, txn_pages, txn_free, over, free_over}}}
use Rattle.{page_store.specs.declared.{pages.Pages.Pages, txn.Txn.Txn}, sector_device.specs.{claim.Disk.Image, declared.SectorDevice.Ghosts}}

module _ {D : Type 0} {g : Ghosts D} where
  -- why no step goes down from pages that hold what they can
  abbrev pub StepErr : (Image → Type 0) → Pages D g → Pages D g → TreeError → Type 0
  StepErr can old new e = ReadsErr can old new e

  -- why a node isn't written
  abbrev pub WriteErr : Txn → Pages D g → Pages D g → TreeError → Type 0
  WriteErr t old new NoPages = txn_free t ≡ 0
  WriteErr t old new Memory = Unit {0}
  WriteErr t old new e = ReadsErr (λ S. AreFree (txn_pages t) (free_over t S)) old new e

  -- nor a leaf in whose bytes a row was to be put
  abbrev pub RowErr : List ℕ → Txn → Pages D g → Pages D g → TreeError → Type 0
  RowErr bytes t old new NotAStore = (disk_in new).is_honest
      → AreFree (txn_pages t) (free_over t (stored old)) → (es : List Entry) → IsNode bytes (record { level = 0; entries = es }) → ⊥
  RowErr bytes t old new e = WriteErr t old new e

  -- nor the node at a page, with one link more
  abbrev pub LinkErr : ℕ → Txn → Pages D g → Pages D g → TreeError → Type 0
  LinkErr page t old new NotAStore = (disk_in new).is_honest → AreFree (txn_pages t) (free_over t (stored old))
      → (node : Node) → IsNode (over t (stored old) page) node → 0 < length node.entries → ⊥
  LinkErr page t old new e = WriteErr t old new e

  -- nor a root above one of a level
  abbrev pub GrowErr : ℕ → Txn → Pages D g → Pages D g → TreeError → Type 0
  GrowErr level t old new NoPages = (txn_free t ≡ 0) × (level ≤ 4)
  GrowErr level t old new TooDeep = level ≡ 5
  GrowErr level t old new e = WriteErr t old new e

  -- why a row isn't put into a tree at a page
  abbrev pub PlaceErr : ℕ → (Image → Type 0) → Txn → Pages D g → Pages D g → TreeError → Type 0
  PlaceErr level can t old new NoPages = txn_free t ≤ level
  PlaceErr level can t old new Memory = Unit {0}
  PlaceErr level can t old new e = ReadsErr can old new e
