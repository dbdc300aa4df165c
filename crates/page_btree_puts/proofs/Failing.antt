-- A refusal below, told above.
use Rattle.{std.proofs.Common.{rules, ◌≡◌, ◌≤◌, ◌<◌, ◌+◌, ℕ, List, sym, ◌∙◌, arith, length}, page_btree_gets.specs.{Errors.{tree_error, IsNoWant}, claim.Errors.{PutErr, level_in}}}
use Rattle.page_btree_gets.specs.{claim.{Keys.KeyMap, Map.InTxn}, declared.error.TreeError.{TreeError, TheVariants.NoPages}, node.claim.Node.{Node, IsNode}}
use Rattle.{page_btree_puts.specs.Errors.{StepErr, PlaceErr, RowErr, LinkErr, WriteErr, GrowErr}, page_store.specs.{claim.Chain.AreFree, declared.{pages.Pages.Pages, txn.Txn.Txn}}}
use Rattle.page_store.{specs.claim.Transactions.{stored, disk_in, txn_pages, txn_root, txn_free, over, free_over, IsQuiet, Passed, ReadErr, TakeErr}, proofs.Stops.failed_more}
use Rattle.{page_store.specs.gate_journal.declared.error.PageError.PageError, sector_device.specs.{claim.Disk.Image, declared.SectorDevice.Ghosts}}
use Rattle.page_btree_gets.proofs.Refusals.{by_case, by_read}
use Rattle.page_store.specs.gate_journal.declared.error.PageError.TheVariants as page

module _ {D : Type 0} {g : Ghosts D} where
  pub step_failed : (level : ℕ) (can : Image → Type 0) (t : Txn) (old new : Pages D g) (e : TreeError) → StepErr can old new e → PlaceErr level can t old new e
  step_failed level can t old new = search rules

  pub below_failed : (level below : ℕ) (can can_below : Image → Type 0) (t : Txn) (old mid new : Pages D g) → Passed old mid → IsQuiet mid new → below ≤ level → ((disk_in new).is_honest → can (stored old) → can_below (stored mid))
      → (e : TreeError) → PlaceErr below can_below t mid new e → PlaceErr level can t old new e
  below_failed level below can can_below t old mid new passed quiet le also = by_case (λ e. PlaceErr below can_below t mid new e) (λ e. PlaceErr level can t old new e)
      (failed_more old mid new passed quiet) (λ why honest is. why honest (also honest is)) (λ why. sym passed.halted ∙ why) (λ (why : PlaceErr below can_below t mid new NoPages). omega arith) (λ why. why) (λ _. tt)

  pub link_failed : (level : ℕ) (can : Image → Type 0) (p : ℕ) (t u : Txn) (old mid new : Pages D g) → Passed old mid → IsQuiet mid new → txn_free t ≤ txn_free u + level
      → ((disk_in new).is_honest → can (stored old) → AreFree (txn_pages u) (free_over u (stored mid)) × ((node : Node) × IsNode (over u (stored mid) p) node × (0 < length node.entries)))
      → (e : TreeError) → LinkErr p u mid new e → PlaceErr level can t old new e
  link_failed level can p t u old mid new passed quiet le has = by_case (λ e. LinkErr p u mid new e) (λ e. PlaceErr level can t old new e)
      (failed_more old mid new passed quiet) (λ why honest is. let h = has honest is in why honest h.0 h.1.0 h.1.1 h.1.2) (λ why. sym passed.halted ∙ why) (λ (why : LinkErr p u mid new NoPages). omega arith) (λ why. why) (λ _. tt)

  -- ---- of a node that is written
  pub take_failed : (t : Txn) (old new : Pages D g) (e : PageError) → TakeErr t old new e → WriteErr t old new (tree_error e)
  take_failed t old new page.TooManyPages why = absurd why
  take_failed t old new page.TooSmall why = absurd why
  take_failed t old new page.Memory why = absurd why
  take_failed t old new _ why = why

  pub row_written_failed : (bytes : List ℕ) (t : Txn) (old new : Pages D g) (e : TreeError) → WriteErr t old new e → RowErr bytes t old new e
  row_written_failed bytes t old new = search by_case

  pub link_read_failed : (p : ℕ) (t : Txn) (old new : Pages D g) (e : PageError) → ReadErr old new e → LinkErr p t old new (tree_error e)
  link_read_failed p t old new = by_read (λ e. LinkErr p t old new e) old new (λ why. why) (λ why. why)

  pub link_written_failed : (p : ℕ) (t : Txn) (old mid new : Pages D g) → Passed old mid → IsQuiet mid new → (e : TreeError) → WriteErr t mid new e → LinkErr p t old new e
  link_written_failed p t old mid new passed quiet = search rules

  -- ---- of a put at the root
  pub first_failed : (t : Txn) (old new : Pages D g) (e : TreeError) → WriteErr t old new e → PutErr t old new e
  first_failed t old new = search rules

  pub root_read_failed : (t : Txn) (old new : Pages D g) (e : PageError) → ReadErr old new e → PutErr t old new (tree_error e) × IsNoWant (tree_error e)
  root_read_failed t old new = by_read (λ e. PutErr t old new e × IsNoWant e) old new (λ why. (why, tt)) (λ why. (why, tt))

  pub place_failed : (level : ℕ) (can : Image → Type 0) (t : Txn) (old mid new : Pages D g) → Passed old mid → IsQuiet mid new → level ≤ 5 → ((disk_in new).is_honest → (m : KeyMap) → InTxn t (stored old) m → can (stored mid))
      → (e : TreeError) → PlaceErr level can t mid new e → PutErr t old new e
  place_failed level can t old mid new passed quiet few has = by_case (λ e. PlaceErr level can t mid new e) (λ e. PutErr t old new e)
      (failed_more old mid new passed quiet) (λ why honest m is. why honest (has honest m is)) (λ why. sym passed.halted ∙ why) (λ (why : PlaceErr level can t mid new NoPages). omega arith) (λ why. absurd why) (λ _. tt)

  pub grow_failed : (level : ℕ) (t u : Txn) (old mid new : Pages D g) → Passed old mid → IsQuiet mid new → txn_free t ≤ txn_free u + (level + 1)
      → ((disk_in new).is_honest → level ≡ level_in (over t (stored old)) (txn_root t)) → ((disk_in new).is_honest → (m : KeyMap) → InTxn t (stored old) m → AreFree (txn_pages u) (free_over u (stored mid)))
      → (e : TreeError) → GrowErr level u mid new e → PutErr t old new e
  grow_failed level t u old mid new passed quiet free same has = by_case (λ e. GrowErr level u mid new e) (λ e. PutErr t old new e)
      (failed_more old mid new passed quiet) (λ why honest m is. why honest (has honest m is)) (λ why. sym passed.halted ∙ why) (λ (why : GrowErr level u mid new NoPages). let none = why.0 in let small = why.1 in omega arith) (λ why honest. sym (same honest) ∙ why) (λ _. tt)
