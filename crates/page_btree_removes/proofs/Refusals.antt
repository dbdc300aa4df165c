-- A refusal of a remove below, told above.
use Rattle.{std.proofs.Common.{rules, ℕ, List, sym, ◌∙◌}, page_btree_gets.{specs.{Getting.ReadsErr, claim.{Errors.RemoveErr, Keys.KeyMap, Map.InTxn}}, proofs.Refusals.by_case}}
use Rattle.{page_btree_gets.specs.declared.error.TreeError.{TreeError, TheVariants.NotAStore}, page_btree_removes.specs.Removing.{BackErr, TakenErr, LinkErr, BelowErr}}
use Rattle.{page_store.specs.{claim.Transactions.{stored, disk_in, IsQuiet, Passed}, declared.{pages.Pages.Pages, txn.Txn.Txn}}, sector_device.specs.claim.Disk.Image}
use Rattle.{sector_device.specs.declared.SectorDevice.Ghosts, page_store.proofs.Stops.failed_more}

pub back_taken : (t : Txn) (p : ℕ) (page : List ℕ) (e : TreeError) → BackErr t p e → TakenErr t p page e
back_taken t p page = search by_case

module _ {D : Type 0} {g : Ghosts D} where
  pub level_fails : (can below : Image → Type 0) (old new : Pages D g) → ((disk_in new).is_honest → can (stored old) → below (stored old)) → (e : TreeError) → ReadsErr below old new e → BelowErr can old new e
  level_fails can below old new also = search rules

  pub below_more : (can below : Image → Type 0) (old mid new : Pages D g) → Passed old mid → IsQuiet mid new → ((disk_in new).is_honest → can (stored old) → below (stored mid)) → (e : TreeError) → BelowErr below mid new e → BelowErr can old new e
  below_more can below old mid new passed quiet also = search rules

  pub link_fails : (can : Image → Type 0) (t : Txn) (p : ℕ) (bytes : List ℕ) (old new : Pages D g) → ((disk_in new).is_honest → can (stored old) → LinkErr t p bytes NotAStore → ⊥) → (e : TreeError) → LinkErr t p bytes e → BelowErr can old new e
  link_fails can t p bytes old new has = by_case (λ e. LinkErr t p bytes e) (λ e. BelowErr can old new e)
      (λ why. absurd why) (λ why honest is. has honest is why) (λ why. absurd why) (λ why. absurd why) (λ why. absurd why) (λ _. tt)

  pub row_fails : (can : Image → Type 0) (t : Txn) (p : ℕ) (bytes : List ℕ) (old new : Pages D g) → ((disk_in new).is_honest → can (stored old) → TakenErr t p bytes NotAStore → ⊥) → (e : TreeError) → TakenErr t p bytes e → BelowErr can old new e
  row_fails can t p bytes old new has = by_case (λ e. TakenErr t p bytes e) (λ e. BelowErr can old new e)
      (λ why. absurd why) (λ why honest is. has honest is why) (λ why. absurd why) (λ why. absurd why) (λ why. absurd why) (λ _. tt)

  pub remove_fails : (below : Image → Type 0) (t : Txn) (old mid new : Pages D g) → Passed old mid → IsQuiet mid new → ((disk_in new).is_honest → (m : KeyMap) → InTxn t (stored old) m → below (stored mid)) → (e : TreeError) → BelowErr below mid new e → RemoveErr t old new e
  remove_fails below t old mid new passed quiet also = by_case (λ e. BelowErr below mid new e) (λ e. RemoveErr t old new e)
      (failed_more old mid new passed quiet) (λ why honest m is. why honest (also honest m is)) (λ why. sym passed.halted ∙ why) (λ why. why) (λ why. why) (λ _. tt)
