-- What a call that reads pages at most says, whatever it reads them for.
use Rattle.{std.specs.Prelude.{Result, OnOk, IfErr}, page_store.specs.{claim.Transactions.{IsQuiet, Passed}, declared.pages.Pages.Pages}}
use Rattle.sector_device.specs.declared.SectorDevice.{Ghosts}

-- No page changed; at Ok no fault was met; an error is told only where it is so.
pub record ReadsOnly {D A E : Type 0} {g : Ghosts D} (refused : E → Type 0) (old new : Pages D g) (result : Result A E) : Type 0 where
  pub quiet : IsQuiet old new
  pub passed : OnOk result (Passed old new)
  pub err : IfErr result refused
