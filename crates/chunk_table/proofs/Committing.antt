-- A transaction that is begun, in which rows change, and that is committed then.
use Rattle.{std.{specs.Prelude.◌⊎◌, proofs.Common.{◌≡◌, ◌+◌, ℕ, Bool, true, false, length, sym, ◌∙◌, inl, ⊎_elim, arith}}, desk_model.specs.claim.Desk.Desk}
use Rattle.{desk_store_pages.specs.claim.Desks.{InPagesOf, InTxnOf, OpensDesk, OpensDeskOf}, desk_store_rows.specs.claim.Rows.KeyMap, page_store.specs.declared.pages.Pages.Pages}
use Rattle.{page_btree.specs.gets.claim.Map.{InTxn, InPages}, page_store.specs.{claim.Chain.{free_in, root_in}, declared.txn.Txn.Txn, gate_journal.claim.Store.home}}
use Rattle.page_store.specs.claim.Transactions.{stored, disk_in, count_of, journal_of, has_halted, txn_pages, txn_root, txn_free, txn_writes, over, free_over, HasFailed, HasShape, IsQuiet, Passed}
use Rattle.{sector_device.specs.{claim.{Disk.{Disk, Image}, Moments.LeavesOnly}, declared.SectorDevice.Ghosts}, desk_store_pages.proofs.Kept.opens_now}
use Rattle.{page_store.proofs.{Chains.length_chain, Stops.{leaves_here, leaves_quiet}}, sector_device.proofs.Moments.{leaves_more, leaves_wider}}
use Rattle.page_btree.proofs.gets.MapLaws.{begun_holds}

pub both : {X : Type 0} (b : Bool) → b ≡ true → b ≡ false → X
both b one other = let clash : true ≡ false = sym one ∙ other in absurd (cc)

-- a commit of what opens to the same desk
pub one_leaves : (sectors : ℕ) (d : Desk) (old new : Disk) → LeavesOnly (λ x. OpensDesk sectors d x ⊎ OpensDesk sectors d x) old new → LeavesOnly (OpensDesk sectors d) old new
one_leaves sectors d old new left = leaves_wider (λ x. OpensDesk sectors d x ⊎ OpensDesk sectors d x) (OpensDesk sectors d) old new (λ x. ⊎_elim (λ opens. opens) (λ opens. opens)) left

module _ {D : Type 0} {g : Ghosts D} where
  -- ---- pages that were read at most hold the same
  pub quiet_rows : (a b : Pages D g) → IsQuiet a b → (disk_in b).is_honest → (m : KeyMap) → InPages a m → InPages b m
  quiet_rows a b quiet honest m holds = search (arith, quiet.count, quiet.same)

  pub quiet_shape : (a b : Pages D g) → IsQuiet a b → HasShape a b
  quiet_shape a b quiet = record { journal_pages = quiet.journal; pages = quiet.count }

  pub shape_after : (a b c : Pages D g) → IsQuiet a b → HasShape b c → HasShape a c
  shape_after a b c quiet shape = record { journal_pages = shape.journal_pages ∙ quiet.journal; pages = shape.pages ∙ quiet.count }

  -- a stop in calls that read at most leaves the desk, in its version
  pub quiet_leaves : (new : Bool) (a b : Pages D g) → IsQuiet a b → (disk_in b).is_honest → has_halted a ≡ false → (sectors : ℕ) (d : Desk) → home (journal_of a) + count_of a ≡ sectors → InPagesOf new a d → LeavesOnly (OpensDeskOf new sectors d) (disk_in a) (disk_in b)
  quiet_leaves new a b quiet honest working sectors d whole holds = search (arith, leaves_quiet, leaves_here, opens_now, working, quiet.honest)

  -- and a stop in a commit after them that desk, or the one that is committed
  pub commit_leaves : (was now : Bool) (u : Txn) (a b c : Pages D g) → IsQuiet a b → (disk_in b).is_honest → has_halted a ≡ false
      → ((sectors : ℕ) (d next : Desk) → home (journal_of b) + count_of b ≡ sectors → InPagesOf was b d → InTxnOf now u (stored b) next → LeavesOnly (λ x. OpensDeskOf was sectors d x ⊎ OpensDeskOf now sectors next x) (disk_in b) (disk_in c))
      → (sectors : ℕ) (d next : Desk) → home (journal_of a) + count_of a ≡ sectors → InPagesOf was a d → InTxnOf now u (stored b) next → LeavesOnly (λ x. OpensDeskOf was sectors d x ⊎ OpensDeskOf now sectors next x) (disk_in a) (disk_in c)
  commit_leaves was now u a b c quiet honest working commit sectors d next whole holds reads =
      let P = λ (x : Image). OpensDeskOf was sectors d x ⊎ OpensDeskOf now sectors next x in
      leaves_more P (disk_in a) (disk_in b) (disk_in c)
      (leaves_wider (OpensDeskOf was sectors d) P (disk_in a) (disk_in b) (λ x opens. inl opens) (quiet_leaves was a b quiet honest working sectors d whole holds))
      (commit sectors d next ((λ i. home (quiet.journal i) + quiet.count i) ∙ whole) (record { m = holds.m; holds = quiet_rows a b quiet honest holds.m holds.holds; is = holds.is }) reads)

  -- a fault after calls that passed
  pub failed_after : (a b c : Pages D g) → Passed a b → ((disk_in c).is_honest → (disk_in b).is_honest) → HasFailed b c → HasFailed a c
  failed_after a b c ab bc failed = search (arith, ab.halted, failed.worked, failed.halted, failed.rose, ab.faults, bc)

  -- ---- the beginning
  -- what a transaction that is begun reads, and how many pages are free in it
  pub record IsBegun (ps : Pages D g) (t : Txn) : Type 0 where
    pub working : has_halted ps ≡ false
    pub none : txn_writes t ≡ 0
    pub reads : (disk_in ps).is_honest → (m : KeyMap) → InPages ps m → InTxn t (stored ps) m
    pub free : (disk_in ps).is_honest → length (free_in (stored ps)) ≡ txn_free t

  pub begun_now : (ps : Pages D g) (t : Txn) → has_halted ps ≡ false → txn_writes t ≡ 0 → txn_pages t ≡ count_of ps → ((q : ℕ) → over t (stored ps) q ≡ stored ps q) → (has_halted ps ≡ false → (disk_in ps).is_honest → txn_root t ≡ root_in (stored ps)) → (has_halted ps ≡ false → (disk_in ps).is_honest → free_over t (stored ps) ≡ free_in (stored ps)) → IsBegun ps t
  begun_now ps t working none count same root free = search (arith, working, none, begun_holds, root, free, length_chain)
