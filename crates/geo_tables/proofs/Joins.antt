-- A transaction that is begun, whose rows are put, and that is committed then.
use Rattle.{std.{specs.Prelude.◌⊎◌, proofs.Common.{◌≡◌, ◌+◌, ◌*◌, ◌≤◌, ℕ, length, false, sym, subst, ◌∙◌, Result, inl, ⊎_elim, arith}}, desk_model.specs.claim.Desk.Desk}
use Rattle.{desk_store_pages.specs.{Calls.CommitsFitting, claim.Desks.{InPages, InTxn, OpensDesk}, declared.error.StoreError.StoreError}, desk_store_rows.specs.claim.Rows.KeyMap}
use Rattle.{geo_tables.specs.{Refusals.HasRoom, Starting.IsStarted}, page_btree.specs.gets.claim.Map.{InTxn as TxnHolds, InPages as PagesHold}}
use Rattle.{page_store.specs.{claim.Chain.{free_in, root_in}, declared.{pages.Pages.Pages, txn.Txn.Txn}, gate_journal.claim.Store.home}, sector_device.specs.claim.Disk.Image}
use Rattle.page_store.specs.claim.Transactions.{stored, disk_in, count_of, journal_of, has_halted, txn_root, txn_free, over, HasFailed, HasShape, IsQuiet, Passed}
use Rattle.{sector_device.{specs.{claim.Moments.LeavesOnly, declared.SectorDevice.Ghosts}, proofs.Moments.{leaves_more, leaves_wider}}, desk_store_pages.proofs.Kept.opens_now}
use Rattle.page_store.proofs.Stops.{leaves_here, leaves_quiet}

module _ {D : Type 0} {g : Ghosts D} {a b : Pages D g} (quiet : IsQuiet a b) where
  -- pages that were read at most hold the same
  pub quiet_rows : (disk_in b).is_honest → (m : KeyMap) → PagesHold a m → PagesHold b m
  quiet_rows honest m holds = search (arith, quiet.count, quiet.same)

  pub quiet_desk : (disk_in b).is_honest → (d : Desk) → InPages a d → InPages b d
  quiet_desk honest d holds = record { m = holds.m; holds = quiet_rows honest holds.m holds.holds; is = holds.is }

  -- and keep their sizes
  pub shape_after : (c : Pages D g) → HasShape b c → HasShape a c
  shape_after c shape = record { journal_pages = shape.journal_pages ∙ quiet.journal; pages = shape.pages ∙ quiet.count }

  -- a stop in calls that read at most leaves the desk
  pub quiet_leaves : (disk_in b).is_honest → has_halted a ≡ false → (sectors : ℕ) (d : Desk) → home (journal_of a) + count_of a ≡ sectors → InPages a d
      → LeavesOnly (OpensDesk sectors d) (disk_in a) (disk_in b)
  quiet_leaves honest working sectors d whole holds = search (arith, leaves_quiet, leaves_here, opens_now, quiet.honest)

  pub whole_then : (sectors : ℕ) → home (journal_of a) + count_of a ≡ sectors → home (journal_of b) + count_of b ≡ sectors
  whole_then sectors whole = (λ i. home (quiet.journal i) + quiet.count i) ∙ whole

  -- a stop in a commit after them
  module _ {u : Txn} {c : Pages D g} {r : Result (Unit {0}) StoreError} (did : CommitsFitting u b c r) (honest : (disk_in c).is_honest) (working : has_halted a ≡ false) where
    pub step_leaves : (sectors : ℕ) (d next : Desk) → home (journal_of a) + count_of a ≡ sectors → InPages a d → ((disk_in b).is_honest → InTxn u (stored b) next)
        → LeavesOnly (λ x. OpensDesk sectors d x ⊎ OpensDesk sectors next x) (disk_in a) (disk_in c)
    step_leaves sectors d next whole holds reads =
        let then = did.commits.honest honest in
        let P = λ (x : Image). OpensDesk sectors d x ⊎ OpensDesk sectors next x in
        leaves_more P (disk_in a) (disk_in b) (disk_in c)
        (leaves_wider (OpensDesk sectors d) P (disk_in a) (disk_in b) (λ x opens. inl opens) (quiet_leaves then working sectors d whole holds))
        (did.any_moment honest sectors d next (whole_then sectors whole) (quiet_desk then d holds) (reads then))

    -- where it reads the desk
    pub desk_leaves : (sectors : ℕ) (d : Desk) → home (journal_of a) + count_of a ≡ sectors → InPages a d → ((disk_in b).is_honest → InTxn u (stored b) d)
        → LeavesOnly (OpensDesk sectors d) (disk_in a) (disk_in c)
    desk_leaves sectors d whole holds reads = leaves_wider (λ x. OpensDesk sectors d x ⊎ OpensDesk sectors d x) (OpensDesk sectors d) (disk_in a) (disk_in c)
        (λ x. ⊎_elim (λ opens. opens) (λ opens. opens)) (step_leaves sectors d d whole holds reads)

  -- a transaction reads the rows as before after calls that read at most
  pub reads_then : (t : Txn) → (disk_in b).is_honest → (m : KeyMap) → TxnHolds t (stored a) m → TxnHolds t (stored b) m
  reads_then t honest m holds = subst (λ (P : Image). TxnHolds t P m) (sym (quiet.same honest)) holds

  -- what pages hold after calls that read at most, they held before
  pub quiet_back : (disk_in b).is_honest → (m : KeyMap) → PagesHold b m → PagesHold a m
  quiet_back honest m holds = search (arith, quiet.count, quiet.same)

module _ {D : Type 0} {g : Ghosts D} {a b : Pages D g} (passed : Passed a b) where
  -- a fault after calls that passed
  pub failed_after : (c : Pages D g) → ((disk_in c).is_honest → (disk_in b).is_honest) → HasFailed b c → HasFailed a c
  failed_after c bc failed = search (arith, passed.halted, failed.worked, failed.halted, failed.rose, passed.faults, bc)

  -- a transaction that was begun, after calls that read at most, where there is room then
  pub started_then : {t : Txn} (rows : ℕ) → IsStarted 0 a t → 13 * rows ≤ txn_free t → 13 * rows ≤ journal_of b → IsStarted rows b t
  started_then {t} rows started free journal = record {
    pages = started.pages ∙ sym passed.quiet.count;
    working = passed.halted ∙ started.working;
    none = started.none;
    journal = journal;
    free = free;
    count = λ honest. subst (λ (P : Image). txn_free t ≡ length (free_in P)) (sym (passed.quiet.same honest)) (started.count (passed.quiet.honest honest));
    same = λ honest. subst (λ (P : Image). over t P ≡ P) (sym (passed.quiet.same honest)) (started.same (passed.quiet.honest honest));
    root = λ honest. subst (λ (P : Image). txn_root t ≡ root_in P) (sym (passed.quiet.same honest)) (started.root (passed.quiet.honest honest));
    reads = λ honest m holds. reads_then passed.quiet t honest m (started.reads (passed.quiet.honest honest) m (quiet_back passed.quiet honest m holds));
  }

-- the room that was tested
pub room_of : {D : Type 0} {g : Ghosts D} {rows : ℕ} {a c : Pages D g} {t : Txn} → IsStarted rows a t → ((disk_in c).is_honest → (disk_in a).is_honest) → HasRoom rows a c
room_of started honest_then = search (arith, started.journal, started.count, honest_then, started.free)
