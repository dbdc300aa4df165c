-- What calls on a tree ask for.
use Rattle.std.specs.Prelude.{◌≡◌, ◌<◌, ◌≤◌, ℕ, List, length}
use Rattle.{page_btree_gets.specs.Keys.IsKey, page_store.specs.{claim.Transactions.{count_of, txn_pages}, declared.{pages.Pages.Pages, txn.Txn.Txn}}}
use Rattle.sector_device.specs.declared.SectorDevice.{Ghosts}

-- these are the pages that the transaction was begun with, and this is the number of one
pub record IsPageOf {D : Type 0} {g : Ghosts D} (t : Txn) (ps : Pages D g) (p : ℕ) : Type 0 where
  pub begun : txn_pages t ≡ count_of ps
  pub below : p < txn_pages t

pub record IsRowToPut (key value : List ℕ) : Type 0 where
  pub long : IsKey key
  pub short : length value ≤ 1024
