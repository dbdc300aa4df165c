-- Rows that a scan passes over, rows that are looked up, and what is noted in memory after a look.
use Rattle.std.{specs.{FinMap.get as row_at, Prelude.{Option, Result, IsErrAnd, MatchResult, Some, None, Ok, Err, IfSome}}, proofs.lemmas.Bool.Decides.nat_tests}
use Rattle.{std.proofs.{Common.{◌≤◌, length, take, nat_eq, arith, ◌≡◌, ℕ, Bool, true, false, List, []}, lemmas.List.length-take}, btree_scan.specs.declared.rows.Row.Row}
use Rattle.{btree_scan.specs.{Scanning.{CanScan, ScanErr, TakesNextRow, fault_in, has_ended}, declared.scans.RowScan.RowScan}, desk_store_rows.specs.claim.Rows.KeyMap}
use Rattle.{desk_store_pages.specs.Looking.{Gathers, Looks, Seeks}, page_btree.specs.gets.{claim.Errors.GetErr, declared.error.TreeError.{TreeError, TheVariants.Memory}}}
use Rattle.{page_btree.specs.node.claim.Entries.Entry, page_store.specs.{claim.Transactions.{IsQuiet, Passed}, declared.{pages.Pages.Pages, txn.Txn.Txn}}}
use Rattle.{plan_revisions_sweeps.specs.Checks.IsMarkedAs, sector_device.specs.declared.SectorDevice.Ghosts, desk_store_pages.proofs.Reading.get_unread}
use Rattle.{btree_scan.proofs.Walked.{HasNext, HasWalked, walk_next, walk_passed, walk_quiet, walk_refused}, desk_store_rows.proofs.OneGeography.value_is}
use Rattle.desk_store_pages.proofs.Looking.{fails_from, finds, lacks_memory, looked, not_looked}

-- each has a value, or is the one that is spared
abbrev pub IsPassed : List ℕ → Entry → Type 0
IsPassed spared e = e.1 ≡ [] → e.0 ≡ spared

module _ {D : Type 0} {g : Ghosts D} {prefix : List ℕ} {Known : KeyMap → List Entry → Type 0} {t : Txn} {old now new : Pages D g} {was : RowScan} {count : ℕ} (walked : HasWalked prefix Known t old now was count) (quiet : IsQuiet now new) (is : RowScan) where
  -- the next row comes
  pub comes : {short : Type 0} (row : Row) (found : Bool) → TakesNextRow t now new was is row found → found ≡ true → (found ≡ true → (has_ended is ≡ false) × (fault_in is ≡ fault_in was)) → (fault_in is ≡ None → Passed now new)
      → Seeks short (λ m _. HasNext prefix Known m row) (λ m. Unit {0}) t old new (Ok (tt {0}))
  comes row found takes told going passes = looked (walk_passed walked quiet is row found takes told going passes) (walk_next walked quiet is row found takes told)

  -- it isn't read
  pub not_come : {X : Type 0} {says : KeyMap → X → Type 0} {has : KeyMap → Type 0} (fault : TreeError) → fault_in is ≡ Some fault → (fault_in was ≡ None → IfSome (fault_in is) (λ e. ScanErr (CanScan was) t now new e))
      → Looks says has t old new (Err fault)
  not_come {has = has} fault told why = not_looked (walk_quiet walked quiet) (get_unread has t old new fault (walk_refused walked quiet is fault told why))

-- a value of no byte is none
pub marked_by : (bytes key : List ℕ) (m : KeyMap) (long : ℕ) → length bytes ≡ 1024 → long ≤ 1024 → ◌≡◌ {A = Option (List ℕ)} (Some (take long bytes)) (row_at m key) → (b : Bool) → nat_eq long 0 ≡ b → IsMarkedAs key m b
marked_by bytes key m long whole few told b is = search (arith, nat_tests, value_is, length-take)

-- a row that isn't read
pub not_got : {D X : Type 0} {g : Ghosts D} {says : KeyMap → X → Type 0} {has : KeyMap → Type 0} {t : Txn} {a b : Pages D g} (e : TreeError) (r : Result X TreeError) → IsQuiet a b → GetErr t a b e → IsErrAnd r (λ x. x ≡ e) → Looks says has t a b r
not_got {D} {X} {g} {says} {has} {t} {a} {b} e r quiet why is = fails_from has e r quiet (get_unread has t a b e why) is (λ m needs. needs)

-- what is noted after a look
pub notes : {D X Y : Type 0} {g : Ghosts D} {says : KeyMap → X → Type 0} {also : KeyMap → Y → Type 0} {has more : KeyMap → Type 0} {t : Txn} {a b : Pages D g} {x : X} {noted : Y → Type 0}
    → Gathers says has t a b (Ok x) → (r : Result Y TreeError) → MatchResult r noted (λ e. e ≡ Memory) → ((m : KeyMap) (y : Y) → says m x → noted y → also m y) → Gathers also more t a b r
notes look r done gives = search (arith, finds, gives, lacks_memory)
