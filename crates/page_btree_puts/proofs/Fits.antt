-- A put that edits a leaf alone, told above.
use Rattle.{std.proofs.Common.{rules, ℕ, List, sym, ◌∙◌, arith}, page_btree_gets.specs.{Editing.IsAlike, Errors.IsNoWant, Getting.ReadsErr, claim.{Keys.KeyMap, Map.InTxn}}}
use Rattle.page_btree_gets.specs.{claim.Errors.{GetErr, PutErr, level_in}, declared.error.TreeError.{TreeError, TheVariants.NoPages}, node.{Searching.IsBelow, claim.Entries.Entry}}
use Rattle.{page_btree_gets.specs.node.{claim.{Node.IsNode, Places.Rises}, declared.search.RowNear.RowNear}, page_btree_puts.specs.Fingers.{StandsIn, PutByErr, GetWhereErr}}
use Rattle.{page_btree_puts.specs.{Fitting.LeafPutErr, declared.finger.Finger.Finger}, page_store.specs.claim.Transactions.{stored, disk_in, over, IsQuiet, Passed}}
use Rattle.{page_store.{specs.declared.{pages.Pages.Pages, txn.Txn.Txn}, proofs.Stops.failed_more}, sector_device.specs.{claim.Disk.Image, declared.SectorDevice.Ghosts}}
use Rattle.page_btree_gets.proofs.{Editing.still_in, Refusals.by_case}

module _ {D : Type 0} {g : Ghosts D} where
  -- ---- refusals
  -- a finger forbids no reason
  pub by_err : (was : Finger) (t : Txn) (old new : Pages D g) → (e : TreeError) → PutErr t old new e → PutByErr was t old new e
  by_err was t old new = search rules

  -- a look-up
  pub get_where_err : (can says : Image → Type 0) (t : Txn) (old new : Pages D g) → ((disk_in new).is_honest → (m : KeyMap) → InTxn t (stored old) m → says (stored old) → can (stored old)) → (e : TreeError) → ReadsErr can old new e → GetWhereErr says t old new e
  get_where_err can says t old new has = by_case (λ e. ReadsErr can old new e) (λ e. GetWhereErr says t old new e)
      (λ why. why) (λ why honest m is stands. why honest (has honest m is stands)) (λ why. why) (λ why. why) (λ why. why) (λ why. why)

  pub get_fewer_err : (says fewer : Image → Type 0) (t : Txn) (old new : Pages D g) → (fewer (stored old) → says (stored old)) → (e : TreeError) → GetWhereErr says t old new e → GetWhereErr fewer t old new e
  get_fewer_err says fewer t old new gives = search rules

  pub get_any_err : (says : Image → Type 0) (t : Txn) (old new : Pages D g) → (e : TreeError) → GetErr t old new e → GetWhereErr says t old new e
  get_any_err says t old new = search rules

  -- the leaf isn't found
  pub reach_failed : (can : Image → Type 0) (was : Finger) (t : Txn) (old new : Pages D g) → ((disk_in new).is_honest → (m : KeyMap) → InTxn t (stored old) m → can (stored old)) → (e : TreeError) → ReadsErr can old new e → PutByErr was t old new e × IsNoWant e
  reach_failed can was t old new has = by_case (λ e. ReadsErr can old new e) (λ e. PutByErr was t old new e × IsNoWant e)
      (λ why. (why, tt)) (λ why. ((λ honest m is stands. why honest (has honest m is)), tt)) (λ why. (why, tt)) (λ why. absurd why) (λ why. absurd why) (λ why. absurd why)

  -- or no row is put there
  pub leaf_failed : (was : Finger) (page : ℕ) (from : RowNear) (key : List ℕ) (t : Txn) (old mid new : Pages D g) → Passed old mid → IsQuiet mid new
      → ((disk_in new).is_honest → (m : KeyMap) → InTxn t (stored old) m → StandsIn t (stored old) was → (es : List Entry) × IsNode (over t (stored mid) page) (record { level = 0; entries = es }) × Rises es × IsBelow key es from.k from.at)
      → (e : TreeError) → LeafPutErr page from key t mid new e → PutByErr was t old new e × IsNoWant e
  leaf_failed was page from key t old mid new passed quiet has = by_case (λ e. LeafPutErr page from key t mid new e) (λ e. PutByErr was t old new e × IsNoWant e)
      (λ why. (failed_more old mid new passed quiet why, tt)) (λ why. ((λ honest m is stands. let h = has honest m is stands in why honest h.0 h.1 h.2 h.3), tt)) (λ why. (sym passed.halted ∙ why, tt)) (λ why. absurd why) (λ why. absurd why) (λ _. (tt, tt))

  -- a call after one that changed nothing
  pub put_failed_more : (t : Txn) (old mid new : Pages D g) → Passed old mid → IsQuiet mid new → (e : TreeError) → PutErr t mid new e → PutErr t old new e
  put_failed_more t old mid new passed quiet = search rules

  -- or after one that left the transaction alike
  pub put_failed_alike : (t u : Txn) (old new : Pages D g) → IsAlike t u → (e : TreeError) → PutErr u old new e → PutErr t old new e
  put_failed_alike t u old new alike = by_case (λ e. PutErr u old new e) (λ e. PutErr t old new e)
      (λ why. why) (λ why honest m is. why honest m (still_in t u (stored old) m alike is)) (λ why. why) (λ (why : PutErr u old new NoPages). let free = alike.free in omega arith) (λ why honest. (λ x. level_in (sym (alike.over_is (stored old)) x) (sym alike.root x)) ∙ why honest) (λ _. tt)
