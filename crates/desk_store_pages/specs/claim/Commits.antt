-- What a commit makes of the pages.
use Rattle.{desk_store_rows.specs.claim.Rows.KeyMap, page_btree.specs.gets.claim.Map.Holds, page_store.specs.claim.Chain.{root_in, free_in, IsPages}}
use Rattle.{page_store.specs.{claim.Transactions.{prepared_pages, after}, declared.txn.Prepared.Prepared}, sector_device.specs.claim.Disk.Image}

-- the pages after the commit hold the map, and a root and free pages
pub record HoldsAfter (made : Prepared) (P : Image) (m : KeyMap) : Type 0 where
  pub rows : Holds (prepared_pages made) (after made P) (root_in (after made P)) (free_in (after made P)) m
  pub sound : IsPages (prepared_pages made) (after made P)
