-- What becomes of rows that are put.
use Rattle.std.specs.Prelude.{◌≡◌, List, Result, MatchResult}
use Rattle.{desk_store_pages.specs.claim.Puts.{HasPut, PutsErr}, desk_store_rows.specs.claim.Puts.Row, page_btree.specs.gets.declared.error.TreeError.TreeError}
use Rattle.{page_store.specs.{claim.Transactions.{count_of, txn_pages, IsQuiet}, declared.{pages.Pages.Pages, txn.Txn.Txn}}, sector_device.specs.declared.SectorDevice.Ghosts}

-- Pages were only read, a transaction goes on with them, and it did so, or it is told why not.
pub record Writes {D T : Type 0} {g : Ghosts D} (done : T → Type 0) (failed : TreeError → Type 0) (u : Txn) (old new : Pages D g) (result : Result T TreeError) : Type 0 where
  pub quiet : IsQuiet old new
  pub begun : txn_pages u ≡ count_of new
  pub put : MatchResult result done failed

module _ {D : Type 0} {g : Ghosts D} where
  -- the rows were put, or it is told why not
  abbrev pub PutsRows : {T : Type 0} → List Row → Txn → Txn → Pages D g → Pages D g → Result T TreeError → Type 0
  PutsRows rows t u old new result = Writes (λ _. HasPut rows t u old new) (PutsErr rows t old new) u old new result
