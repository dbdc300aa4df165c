-- What calls on pages and transactions leave, each in one relation.
use Rattle.std.specs.Prelude.{◌≡◌, false, OnOk, IfOk, IfErr, ◌≢◌, ◌≤◌, Result, ◌<◌, ℕ, ◌+◌, ◌∷◌, OnErr, MatchResult, length, true, Err}
use Rattle.{gate_journal.specs.declared.error.PageError.{PageError, TheVariants.{Memory, Halted}}, page_store.specs.{Reading.ReadsOnly, Transactions.{txn_list, IsWritten}}}
use Rattle.page_store.specs.{Outcomes.{KeepsRoot, Commits, LeavesAllOrNone, IsCommittedWithoutFault}, claim.Chain.{IsPages, root_in, free_in, AreFree}, declared.pages.Pages.Pages}
use Rattle.page_store.specs.claim.Transactions.{stored, disk_in, count_of, journal_of, has_halted, txn_pages, txn_writes, txn_root, over, free_over, txn_free, TakeErr, prepared_pages, prepared_writes, after, IsSame, CommitErr}
use Rattle.{page_store.specs.declared.txn.{Prepared.Prepared, Txn.Txn}, sector_device.specs.{claim.Disk.Image, declared.SectorDevice.Ghosts}}

-- a transaction that has begun reads what is stored
pub record BeginsOver {D : Type 0} {g : Ghosts D} (ps : Pages D g) (t : Txn) : Type 0 where
  pub pages : txn_pages t ≡ count_of ps
  pub none : txn_writes t ≡ 0
  pub over : (q : ℕ) → over t (stored ps) q ≡ stored ps q
  pub root : has_halted ps ≡ false → (disk_in ps).is_honest → txn_root t ≡ root_in (stored ps)
  pub free : has_halted ps ≡ false → (disk_in ps).is_honest → free_over t (stored ps) ≡ free_in (stored ps)

-- the first free page is taken, and nothing else changes
pub record TakesPage {D : Type 0} {g : Ghosts D} (t u : Txn) (old new : Pages D g) (result : Result ℕ PageError) : Type 0 where
  pub reading : ReadsOnly (TakeErr t old new) old new result
  pub rooted : KeepsRoot t u
  pub writes : txn_writes u ≡ txn_writes t
  pub list : txn_list u ≡ txn_list t
  pub below : IfOk result (λ p. p < txn_pages t)
  pub taken : (disk_in new).is_honest → IfOk result (λ p. free_over t (stored old) ≡ p ∷ free_over u (stored old))
  pub same : OnErr result ((P : Image) → free_over u P ≡ free_over t P)
  pub count : MatchResult result (λ _. txn_free u + 1 ≡ txn_free t) (λ _. txn_free u ≡ txn_free t)
  pub over : (P : Image) → over u P ≡ over t P

-- what is prepared has the pages as the transaction reads them, with its root and its free pages
pub record Prepares (t : Txn) (result : Result Prepared PageError) : Type 0 where
  pub pages : IfOk result (λ made. prepared_pages made ≡ txn_pages t)
  pub sound : IfOk result (λ made. (P : Image) → AreFree (txn_pages t) (free_over t P) → IsPages (txn_pages t) (after made P))
  pub more : IfOk result (λ made. length (prepared_writes made) ≤ txn_writes t + 1)
  pub again : IfOk result (λ made. IsWritten t 0 → length (prepared_writes made) ≡ txn_writes t)
  pub err : IfErr result (λ e. e ≡ Memory)
  pub root : IfOk result (λ made. (P : Image) → root_in (after made P) ≡ txn_root t)
  pub free : IfOk result (λ made. (P : Image) → AreFree (txn_pages t) (free_over t P) → free_in (after made P) ≡ free_over t P)
  pub after : IfOk result (λ made. (P : Image) (q : ℕ) → q ≢ 0 → after made P q ≡ over t P q)

-- this page is the root, and nothing else changes
pub record SetsRoot (t u : Txn) (page : ℕ) : Type 0 where
  pub pages : txn_pages u ≡ txn_pages t
  pub writes : txn_writes u ≡ txn_writes t
  pub list : txn_list u ≡ txn_list t
  pub same : (P : Image) → (over u P ≡ over t P) × (free_over u P ≡ free_over t P)
  pub count : txn_free u ≡ txn_free t
  pub root : txn_root u ≡ page

-- each page is written, or none is, whenever a stop comes
pub record CommitsPrepared {D : Type 0} {g : Ghosts D} (made : Prepared) (old new : Pages D g) (result : Result (Unit {0}) PageError) : Type 0 where
  pub commits : Commits old new result
  pub any_moment : LeavesAllOrNone (prepared_writes made) old new
  pub ok : OnOk result ((has_halted old ≡ false) × (length (prepared_writes made) ≤ journal_of old) × (has_halted new ≡ false))
  pub succeeds : IsCommittedWithoutFault (prepared_writes made) old new result
  pub still : has_halted old ≡ true → (result ≡ Err Halted) × IsSame old new
  pub err : IfErr result (λ e. CommitErr (length (prepared_writes made)) old new e)
  pub after : (disk_in new).is_honest → OnOk result (stored new ≡ after made (stored old))
