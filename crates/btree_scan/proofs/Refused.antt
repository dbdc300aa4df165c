-- A refusal in the midst of a scan, told from its beginning on.
use Rattle.{std.proofs.Common.{sym, subst, ◌∙◌}, btree_scan.specs.Scanning.ScanErr, page_btree.specs.gets.claim.{Errors.GetErr, Keys.KeyMap, Map.InTxn}}
use Rattle.{page_btree.specs.gets.declared.error.TreeError.TreeError, page_store.specs.{claim.Transactions.{stored, disk_in, IsQuiet, Passed}, declared.pages.Pages.Pages}}
use Rattle.{page_store.{specs.declared.txn.Txn.Txn, proofs.Stops.failed_more}, sector_device.specs.{claim.Disk.Image, declared.SectorDevice.Ghosts}}
use Rattle.page_btree.proofs.gets.Refusals.{by_case}

module _ {D : Type 0} {g : Ghosts D} where
  -- calls passed without a fault, then one was refused, where a map that the transaction reads has what that call needs
  pub scan_refused : (can : KeyMap → Type 0) (t : Txn) (old mid new : Pages D g) → Passed old mid → IsQuiet mid new → ((disk_in new).is_honest → (m : KeyMap) → InTxn t (stored old) m → can m) → (e : TreeError) → ScanErr can t mid new e → GetErr t old new e
  scan_refused can t old mid new passed quiet has = by_case (λ e. ScanErr can t mid new e) (λ e. GetErr t old new e)
      (failed_more old mid new passed quiet) (λ why honest m is. why honest m (subst (λ (P : Image). InTxn t P m) (sym (passed.quiet.same (quiet.honest honest))) is) (has honest m is)) (λ why. sym passed.halted ∙ why) (λ why. why) (λ why. why) (λ why. why)
