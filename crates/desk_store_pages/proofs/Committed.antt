-- What is held before and after a commit.
use Rattle.{std.specs.Prelude.IfOk, desk_store_pages.specs.{Commits.{OpensRows, FittingErr}, Errors.page_refusal, claim.Commits.HoldsAfter}, page_store.specs.declared.txn.Txn.Txn}
use Rattle.std.proofs.Common.{rules, ◌≡◌, ◌≢◌, ◌⊎◌, ◌≤◌, ◌+◌, ℕ, true, false, List, length, Result, Ok, Err, OnOk, inl, inr, ⊎_elim, sym, ap, subst, ◌∙◌, arith}
use Rattle.{desk_store_rows.specs.claim.Rows.KeyMap, page_btree.specs.gets.claim.Map.{Holds, InTxn, InPages}, page_store.specs.{Transactions.txn_first, declared.pages.Pages.Pages}}
use Rattle.page_store.specs.{claim.Chain.{AreFree, IsPages, root_in, free_in}, declared.txn.Prepared.Prepared, gate_journal.{Store.IsBeforeOrAfter, claim.Store.home}}
use Rattle.page_store.specs.claim.Transactions.{stored, disk_in, count_of, has_halted, txn_pages, txn_root, txn_free, over, free_over, prepared_pages, prepared_writes, after, journal_of, HasShape, CommitErr}
use Rattle.{page_store.specs.gate_journal.declared.error.PageError.PageError, sector_device.specs.{claim.{Disk.{Disk, Image}, Moments.LeavesOnly}, declared.SectorDevice.Ghosts}}
use Rattle.{page_store.proofs.Chains.length_chain, sector_device.proofs.Moments.leaves_wider}
use Rattle.page_store.specs.gate_journal.declared.error.PageError.TheVariants as page
use Rattle.page_btree.proofs.gets.MapLaws.{prepared_holds}

pub holds_after : (t : Txn) (r : Result Prepared PageError) → IfOk r (λ made. prepared_pages made ≡ txn_pages t) → IfOk r (λ made. (P : Image) (q : ℕ) → q ≢ 0 → after made P q ≡ over t P q) → IfOk r (λ made. (P : Image) → root_in (after made P) ≡ txn_root t)
    → IfOk r (λ made. (P : Image) → AreFree (txn_pages t) (free_over t P) → free_in (after made P) ≡ free_over t P) → IfOk r (λ made. (P : Image) → AreFree (txn_pages t) (free_over t P) → IsPages (txn_pages t) (after made P)) → IfOk r (λ made. (P : Image) (m : KeyMap) → InTxn t P m → HoldsAfter made P m)
holds_after t (Err e) pages same root free sound = tt
holds_after t (Ok made) pages same root free sound = λ P m holds. search (rules, prepared_holds)

-- the pages that are free afterwards are as many as the transaction counts
pub free_after : (t : Txn) (r : Result Prepared PageError) → IfOk r (λ made. (P : Image) → AreFree (txn_pages t) (free_over t P) → free_in (after made P) ≡ free_over t P) → IfOk r (λ made. (P : Image) (m : KeyMap) → InTxn t P m → length (free_in (after made P)) ≡ txn_free t)
free_after t (Err e) free = tt
free_after t (Ok made) free = λ P m holds. ap (λ (l : List ℕ). length l) (free P holds.free_are) ∙ length_chain (over t P) (txn_first t) (txn_free t)

-- an image with the pages before a commit or those after it opens to the one map or to the other
between : (sectors J n : ℕ) (P : Image) (made : Prepared) (m next : KeyMap) → home J + n ≡ sectors → prepared_pages made ≡ n → IsPages n P → Holds n P (root_in P) (free_in P) m → HoldsAfter made P next → (c : Image) → IsBeforeOrAfter J n (prepared_writes made) P c → OpensRows sectors m c ⊎ OpensRows sectors next c
between sectors J n P made m next whole pages sound holds then c is = ⊎_elim
    (λ opens. inl (record { map = record { J = J; n = n; P = P; whole = whole; opens = opens; holds = holds }; sound = sound }))
    (λ opens. inr (record {
      map = record { J = J; n = n; P = after made P; whole = whole; opens = opens; holds = subst (λ k. Holds k (after made P) (root_in (after made P)) (free_in (after made P)) next) pages then.rows };
      sound = subst (λ k. IsPages k (after made P)) pages then.sound;
    })) is

pub stops_between : (sectors J n : ℕ) (P : Image) (made : Prepared) (m next : KeyMap) (old new : Disk) → home J + n ≡ sectors → prepared_pages made ≡ n → IsPages n P → Holds n P (root_in P) (free_in P) m → HoldsAfter made P next
    → LeavesOnly (IsBeforeOrAfter J n (prepared_writes made) P) old new → LeavesOnly (λ c. OpensRows sectors m c ⊎ OpensRows sectors next c) old new
stops_between sectors J n P made m next old new whole pages sound holds then left = search (leaves_wider, between)

module _ {D : Type 0} {g : Ghosts D} where
  -- pages that no fault has stopped hold a root and free pages
  pub pages_sound : (ps : Pages D g) → has_halted ps ≡ false → (disk_in ps).is_honest → AreFree (count_of ps) (free_in (stored ps)) → IsPages (count_of ps) (stored ps)
  pages_sound ps working honest free = search rules

  pub held_then : {E : Type 0} (made : Prepared) (old new : Pages D g) (r : Result (Unit {0}) E) → prepared_pages made ≡ count_of old → HasShape old new → OnOk r (stored new ≡ after made (stored old)) → OnOk r ((next : KeyMap) → HoldsAfter made (stored old) next → InPages new next)
  held_then made old new (Err e) pages shape same = tt
  held_then made old new (Ok x) pages shape same = λ next then. search rules

module _ {D : Type 0} {g : Ghosts D} where
  -- pages that work, and for which the journal has room, are refused for memory or by the device
  pub commit_refused : (writes : ℕ) (a b : Pages D g) → has_halted a ≡ false → writes ≤ journal_of a → (e : PageError) → CommitErr writes a b e → FittingErr a b (page_refusal e)
  commit_refused writes a b working few page.DeviceFault why = why.0
  commit_refused writes a b working few page.Halted why = absurd (let clash : false ≡ true = sym working ∙ why.0 in cc)
  commit_refused writes a b working few page.TooManyPages why = absurd (let less = why.1 in omega arith)
  commit_refused writes a b working few _ why = absurd why
