-- Loops over a scan: rows under a prefix were taken in turn, and something is known of them.
use Rattle.{std.specs.{FinMap.entries, Prelude.{Some, None, IfSome}}, btree_scan.specs.{Prefixes.under, Taken.HasTaken, declared.{rows.Row.Row, scans.RowScan.RowScan}}}
use Rattle.std.proofs.Common.{rules, ◌≡◌, ◌≤◌, ◌<◌, ◌+◌, ℕ, List, [], ◌∷◌, ◌++◌, Bool, true, false, length, length-append, sym, ap, subst, ◌∙◌, arith}
use Rattle.{btree_scan.specs.Scanning.{CanScan, IsNextRow, Rest, ScanErr, TakesNextRow, fault_in, has_ended}, page_btree.specs.gets.claim.{Errors.GetErr, Keys.KeyMap, Map.InTxn}}
use Rattle.{page_btree.specs.{gets.declared.error.TreeError.TreeError, node.claim.Entries.Entry}, page_store.specs.claim.Transactions.{stored, disk_in, IsQuiet, Passed}}
use Rattle.{page_store.specs.declared.{pages.Pages.Pages, txn.Txn.Txn}, sector_device.specs.{claim.Disk.Image, declared.SectorDevice.Ghosts}}
use Rattle.{btree_scan.proofs.{Refused.scan_refused, RowsFound.{IsNextUnder, next_under}, Taken.{taken_few, taken_more}}, page_store.proofs.Stops.{passed_more, quiet_more}}

-- the rows taken before the next one, and what is known of them
pub record HasNext (prefix : List ℕ) (Known : KeyMap → List Entry → Type 0) (m : KeyMap) (row : Row) : Type 0 where
  pub rows : List Entry
  pub known : Known m rows
  pub after : List Entry
  pub whole : under prefix (entries m) ≡ rows ++ (row.key, row.value) ∷ after
  pub next : IsNextUnder prefix m rows (row.key, row.value)

-- all rows
pub record HasAll (prefix : List ℕ) (Known : KeyMap → List Entry → Type 0) (m : KeyMap) : Type 0 where
  pub rows : List Entry
  pub known : Known m rows
  pub whole : under prefix (entries m) ≡ rows

module _ {D : Type 0} {g : Ghosts D} where
  -- since the pages were the old ones a scan took so many rows, met no fault, and this is known of the rows
  pub record HasWalked (prefix : List ℕ) (Known : KeyMap → List Entry → Type 0) (t : Txn) (old now : Pages D g) (scan : RowScan) (count : ℕ) : Type 0 where
    pub passed : Passed old now
    pub fault : fault_in scan ≡ None
    pub taken : (disk_in now).is_honest → (m : KeyMap) → InTxn t (stored old) m → (rows : List Entry) × (length rows ≡ count) × HasTaken prefix rows scan (entries m) × Known m rows

  pub walk_begins : {prefix : List ℕ} {Known : KeyMap → List Entry → Type 0} {t : Txn} (pages : Pages D g) (scan : RowScan) → fault_in scan ≡ None → ((m : KeyMap) → Rest scan (entries m) (under prefix (entries m))) → ((m : KeyMap) → Known m []) → HasWalked prefix Known t pages pages scan 0
  walk_begins {prefix} pages scan fault rest known = search rules

  module _ {prefix : List ℕ} {Known : KeyMap → List Entry → Type 0} {t : Txn} {old now : Pages D g} {was : RowScan} {count : ℕ} (walked : HasWalked prefix Known t old now was count) where
    -- it took fewer rows than a map can have
    pub walk_ends : (limit : ℕ) → ((P : Image) (m : KeyMap) → InTxn t P m → length (entries m) < limit) → limit ≤ count → (disk_in now).is_honest → (m : KeyMap) → InTxn t (stored old) m → ⊥
    walk_ends limit fewer done honest m holds =
        let rows = walked.taken honest m holds in
        let few = taken_few prefix rows.0 was (entries m) rows.2 in
        let less = fewer (stored old) m holds in
        omega arith

    module _ {new : Pages D g} (quiet : IsQuiet now new) where
      pub walk_quiet : IsQuiet old new
      walk_quiet = quiet_more old now new walked.passed.quiet quiet

      pub walk_refused : (is : RowScan) (fault : TreeError) → fault_in is ≡ Some fault → (fault_in was ≡ None → IfSome (fault_in is) (λ e. ScanErr (CanScan was) t now new e)) → GetErr t old new fault
      walk_refused is fault told why =
          scan_refused (CanScan was) t old now new walked.passed quiet (λ honest m holds. let rows = walked.taken (quiet.honest honest) m holds in (rows.2.rest, rows.2.rest_are)) fault
          (subst (λ f. IfSome f (λ e. ScanErr (CanScan was) t now new e)) told (why walked.fault))

      module _ (is : RowScan) (row : Row) (found : Bool) (takes : TakesNextRow t now new was is row found) where
        taken_so : (answer : Bool) → found ≡ answer → (disk_in new).is_honest → (m : KeyMap) → InTxn t (stored old) m → (rows : List Entry) × (length rows ≡ count) × (h : HasTaken prefix rows was (entries m)) × Known m rows × IsNextRow answer is row (entries m) h.rest
        taken_so answer told honest m holds =
            let then = quiet.honest honest in
            let rows = walked.taken then m holds in
            let there = subst (λ (P : Image). InTxn t P m) (sym (walked.passed.quiet.same then)) holds in
            (rows.0, rows.1, rows.2, rows.3, subst (λ b. IsNextRow b is row (entries m) rows.2.rest) told (takes honest m rows.2.rest there rows.2.rest_are))

        -- none comes
        pub walk_all : found ≡ false → fault_in is ≡ None → (disk_in new).is_honest → (m : KeyMap) → InTxn t (stored old) m → HasAll prefix Known m
        walk_all told none honest m holds = search rules

        next_of : (m : KeyMap) (rows : List Entry) (h : HasTaken prefix rows was (entries m)) → Known m rows → IsNextRow true is row (entries m) h.rest → HasNext prefix Known m row
        next_of m rows h known next =
            let whole = h.whole ∙ ap (λ (l : List Entry). rows ++ l) next.1 in
            record { rows = rows; known = known; after = next.0; whole = whole; next = next_under m prefix rows (row.key, row.value) next.0 whole }

        -- one comes
        pub walk_next : found ≡ true → (disk_in new).is_honest → (m : KeyMap) → InTxn t (stored old) m → HasNext prefix Known m row
        walk_next told honest m holds = let rows = taken_so true told honest m holds in next_of m rows.0 rows.2 rows.3 rows.4

        module _ (told : found ≡ true) (going : found ≡ true → (has_ended is ≡ false) × (fault_in is ≡ fault_in was)) (passes : fault_in is ≡ None → Passed now new) where
          pub walk_passed : Passed old new
          walk_passed = passed_more old now new walked.passed (passes ((going told).1 ∙ walked.fault))

          -- and the loop goes on after later calls
          pub walk_on : {After : KeyMap → List Entry → Type 0} (later : Pages D g) → Passed new later
              → ((disk_in later).is_honest → (m : KeyMap) → InTxn t (stored new) m → (h : HasNext prefix Known m row) → After m (h.rows ++ (row.key, row.value) ∷ []))
              → HasWalked prefix After t old later is (count + 1)
          unfolding next_of
          walk_on later passed known = record {
            passed = passed_more old new later walk_passed passed;
            fault = (going told).1 ∙ walked.fault;
            taken = λ honest m holds.
                let then = passed.quiet.honest honest in
                let e : Entry = (row.key, row.value) in
                let rows = taken_so true told then m holds in
                let still = subst (λ (P : Image). InTxn t P m) (sym (walk_passed.quiet.same then)) holds in (
                  rows.0 ++ e ∷ [],
                  length-append rows.0 (e ∷ []) ∙ ap (λ k. k + 1) rows.1,
                  taken_more prefix rows.0 was is row (entries m) rows.2 rows.4,
                  known honest m still (next_of m rows.0 rows.2 rows.3 rows.4),
                );
          }
