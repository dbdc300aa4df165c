-- A sweep: a transaction that is begun, out of which rows are taken, and that is committed then.
use Rattle.{std.specs.Prelude.{Result, Ok, Err, IsErrAnd, if◌then◌else◌}, desk_model.specs.claim.Desk.Desk, desk_store_pages.specs.Commits.{Commits, Leaves, FittingErr}}
use Rattle.std.proofs.Common.{◌≡◌, ◌<◌, ◌+◌, ℕ, Bool, List, [], ◌∷◌, length, Option, Some, None, true, false, refl, sym, ap, subst, ◌∙◌, inl, arith}
use Rattle.desk_store_pages.specs.{Errors.row_refusal, Reading.SeekErr, claim.Desks.{IsDeskMap, InPages as DeskInPages, OpensDesk}, declared.error.StoreError.StoreError}
use Rattle.{desk_store_pages.specs.declared.error.StoreError.TheVariants.{NotAStore, Memory, DeviceFault}, desk_store_rows.specs.claim.{Rows.KeyMap, Tidy.Tidy}}
use Rattle.{desk_store_rows.specs.TurnLaws.{IsUnneeded, CanTurn, Turn, goes, lets_go, take_turns, AreTurns}, page_btree.specs.gets.claim.Map.{InTxn, InPages}}
use Rattle.{desk_store_rows.specs.claim.Keys.{RowKey, Fits, retired, begun, part, version, block, pair, chunk}, page_btree.specs.gets.declared.error.TreeError.TreeError}
use Rattle.page_store.specs.{Calls.BeginsOver, claim.Chain.free_in, declared.{pages.Pages.Pages, txn.Txn.Txn}, gate_journal.claim.Store.home}
use Rattle.page_store.specs.claim.Transactions.{stored, disk_in, count_of, journal_of, has_halted, txn_free, HasFailed, HasShape, IsQuiet, Passed}
use Rattle.{plan_revisions_sweeps.specs.{Checks.IsNewTidy, Leftovers.{IsSpared, IsApart, AreNotSpared, rows_of, IsSweptClean}}, sector_device.specs.claim.Disk.Image}
use Rattle.{plan_revisions_sweeps.specs.Sweeping.{IsSweptMap, HasSwept, HasDesk, TakeErr, SweepErr, Sweeps}, sector_device.specs.claim.Moments.LeavesOnly}
use Rattle.{sector_device.specs.declared.SectorDevice.Ghosts, chunk_table.proofs.Committing.{IsBegun, begun_now, both, commit_leaves, failed_after, one_leaves, quiet_rows}}
use Rattle.page_btree.specs.gets.declared.error.TreeError.TheVariants as tree

-- a transaction that is begun on pages that work
pub begun_by : {D : Type 0} {g : Ghosts D} {a : Pages D g} {t : Txn} → has_halted a ≡ false → BeginsOver a t → IsBegun a t
begun_by {a = a} {t = t} working is = begun_now a t working is.none is.pages is.over is.root is.free

-- ---- no commit was made
pub not_made : {D T : Type 0} {g : Ghosts D} {failed : StoreError → Type 0} {a b : Pages D g} (e : StoreError) (r : Result T StoreError)
    → HasShape a b → ((disk_in b).is_honest → (disk_in a).is_honest) → IsErrAnd r (λ x. x ≡ e) → failed e → Commits failed a b r
not_made e (Ok x) shape honest is why = absurd is
not_made {failed = failed} e (Err x) shape honest is why = record { shape = shape; honest = honest; kept = λ h. tt; passed = λ h. tt; ok = tt; err = subst failed (sym is) why }

-- ---- what was taken out
load_spared : (running : Option ℕ) (load place : ℕ) → IsSpared running (begun load) → IsSpared running (block load place) × IsSpared running (pair load place)
load_spared None load place is = (is, is)
load_spared (Some l) load place is = (is, is)

-- a row that nothing needs has a mark
mark_there : (running : Option ℕ) (m : KeyMap) → IsSweptClean running m → (row : RowKey) → Fits row → IsUnneeded m row → (IsSpared running row → ⊥) → ⊥
mark_there running m clean (retired plan) fits left apart = clean.plans plan fits left.0
mark_there running m clean (begun load) fits left apart = clean.loads load fits apart left.0
mark_there running m clean (part plan revision index) fits left apart = clean.plans plan fits.0 left.0
mark_there running m clean (block load place) fits left apart = clean.loads load fits.0 (λ is. apart (load_spared running load place is).0) left
mark_there running m clean (pair load place) fits left apart = clean.loads load fits.0 (λ is. apart (load_spared running load place is).1) left
mark_there running m clean (chunk number piece) fits left apart = clean.plans left.0 left.2.part_fits.0 left.1
mark_there running m clean _ fits left apart = left

turn_there : (running : Option ℕ) (m : KeyMap) → IsSweptClean running m → (turn : Turn) → CanTurn m turn → IsApart running turn → ⊥
turn_there running m clean (goes row) can apart = mark_there running m clean row can.0 can.1 apart
turn_there running m clean (lets_go plan number count) can apart = clean.plans plan can.plan_fits can.mark

not_clean : (running : Option ℕ) (m : KeyMap) (turns : List Turn) → (rows_of turns ≡ 0 → ⊥) → AreTurns m turns → AreNotSpared running turns → IsSweptClean running m → ⊥
not_clean running m [] some left apart clean = some refl
not_clean running m (turn ∷ turns) some left apart clean = turn_there running m clean turn left.0 apart.0

-- each turn changes a row at least
turns_none : (turns : List Turn) → rows_of turns ≡ 0 → (m : KeyMap) → take_turns m turns ≡ m
turns_none [] none m = refl
turns_none (goes row ∷ turns) none m = absurd (omega arith)
turns_none (lets_go plan number count ∷ turns) none m = absurd (omega arith)

module _ {D : Type 0} {g : Ghosts D} where
  -- ---- rows that were taken out of it
  pub record IsTaken (running : Option ℕ) (count : ℕ) (u : Txn) (a b : Pages D g) (m : KeyMap) (d : Desk) : Type 0 where
    pub n : KeyMap
    pub first : InTxn u (stored a) n
    pub last : InTxn u (stored b) n
    pub swept : IsSweptMap running count m d n

  pub taken_of : (running : Option ℕ) (count : ℕ) (t u : Txn) (a b : Pages D g) → IsBegun a t → HasSwept running count t u a b → (disk_in b).is_honest → (m : KeyMap) (d : Desk) → InPages a m → IsDeskMap m d → IsTaken running count u a b m d
  taken_of running count t u a b start swept honest m d holds is =
      let quiet = swept.passed.quiet in
      let (n, reads, map) = swept.swept honest m d (start.reads (quiet.honest honest) m holds) is in
      record { n = n; first = reads; last = subst (λ (P : Image). InTxn u P n) (sym (quiet.same honest)) reads; swept = map }

  abbrev pub Cleans : Option ℕ → ℕ → Txn → Pages D g → Pages D g → Type 0
  Cleans running count u a b = (disk_in b).is_honest → (n : KeyMap) → InTxn u (stored a) n → Tidy n → count < 15 → IsSweptClean running n

  -- ---- none were
  pub none_swept : (running : Option ℕ) (count : ℕ) (t u : Txn) (a b : Pages D g) → IsBegun a t → HasSwept running count t u a b → Cleans running count u a b → count ≡ 0 → (disk_in b).is_honest → (m : KeyMap) (d : Desk) → InPages a m → IsDeskMap m d → Sweeps running m d a b 0
  none_swept running count t u a b start swept cleans zero honest m d holds is =
      let taken = taken_of running count t u a b start swept honest m d holds is in
      let same = taken.swept.by.rest ∙ turns_none taken.swept.by.turns (taken.swept.by.count_is ∙ zero) m in
      let clean = cleans honest taken.n taken.first taken.swept.is.tidy (omega arith) in
      let frees : length (free_in (stored b)) ≡ length (free_in (stored a)) = ap (λ (P : Image). length (free_in P)) (swept.passed.quiet.same honest) in
      let now = quiet_rows a b swept.passed.quiet honest taken.n (subst (λ (x : KeyMap). InPages a x) (sym same) holds) in
      let by_none = subst (λ (k : ℕ). IsSweptMap running k m d taken.n) zero taken.swept in
      record {
        holds = record { n = taken.n; holds = now; swept = by_none; clean = λ less. clean };
        exact = (λ none. subst (λ (x : KeyMap). IsSweptClean running x) same clean, λ was. refl);
        free = omega arith;
      }

  -- ---- some were, and it is committed
  abbrev pub Committed : Txn → Pages D g → Pages D g → Type 0
  Committed u b c = (m : KeyMap) → InTxn u (stored b) m → InPages c m × (length (free_in (stored c)) ≡ txn_free u)

  pub some_swept : (running : Option ℕ) (count : ℕ) (t u : Txn) (a b c : Pages D g) → IsBegun a t → HasSwept running count t u a b → Cleans running count u a b → (count ≡ 0 → ⊥) → Committed u b c → (disk_in b).is_honest → (m : KeyMap) (d : Desk) → InPages a m → IsDeskMap m d → Sweeps running m d a c count
  some_swept running count t u a b c start swept cleans some committed honest m d holds is =
      let taken = taken_of running count t u a b start swept honest m d holds is in
      let by = taken.swept.by in
      let now = committed taken.n taken.last in
      let begun = swept.passed.quiet.honest honest in
      let given = swept.given honest m d (start.reads begun m holds) is in
      let was = start.free begun in
      let frees = now.1 in
      record {
        holds = record { n = taken.n; holds = now.0; swept = taken.swept; clean = cleans honest taken.n taken.first taken.swept.is.tidy };
        exact = (λ zero. absurd (some zero), λ clean. absurd (not_clean running m by.turns (λ none. some (sym by.count_is ∙ none)) by.left by.apart clean));
        free = omega arith;
      }

  pub some_leaves : (running : Option ℕ) (count : ℕ) (t u : Txn) (a b c : Pages D g) → IsBegun a t → HasSwept running count t u a b → Leaves u b c → (disk_in b).is_honest → (sectors : ℕ) (d : Desk) → home (journal_of a) + count_of a ≡ sectors → DeskInPages a d → LeavesOnly (OpensDesk sectors d) (disk_in a) (disk_in c)
  some_leaves running count t u a b c start swept commit honest sectors d whole holds =
      let taken = taken_of running count t u a b start swept honest holds.m d holds.holds holds.is in
      one_leaves sectors d (disk_in a) (disk_in c) (commit_leaves true true u a b c swept.passed.quiet honest start.working commit sectors d d whole holds (record { m = taken.n; holds = taken.last; is = taken.swept.is }))

  -- ---- refusals
  -- a failure halted the pages beside, or it is told why else
  halted_or : (a b : Pages D g) (e : StoreError) → has_halted a ≡ false → IsQuiet a b → (has_halted b ≡ false → SweepErr a b e) → (halted : Bool)
      → has_halted b ≡ halted → SweepErr a b (if halted then DeviceFault else e)
  halted_or a b e working quiet calm true is = inl (record { worked = working; halted = is; rose = quiet.rose working is })
  halted_or a b e working quiet calm false is = calm is

  halted_taken : (a b : Pages D g) → HasFailed a b → SweepErr a b (row_refusal tree.DeviceFault (has_halted b))
  halted_taken a b failed = subst (λ (halted : Bool). SweepErr a b (row_refusal tree.DeviceFault halted)) (sym failed.halted) (inl failed)

  pub not_taken : (t : Txn) (a b : Pages D g) → IsBegun a t → IsQuiet a b → (e : TreeError) → TakeErr HasDesk t a b e → SweepErr a b (row_refusal e (has_halted b))
  not_taken t a b start quiet tree.DeviceFault why = halted_taken a b why
  not_taken t a b start quiet tree.Halted why = both (has_halted a) why start.working
  not_taken t a b start quiet tree.Memory why = halted_or a b Memory start.working quiet (λ on. quiet) (has_halted b) refl
  not_taken t a b start quiet _ why = halted_or a b NotAStore start.working quiet
      (λ on. (quiet, on, λ honest d holds. why honest holds.m (start.reads (quiet.honest honest) holds.m holds.holds) (d, holds.is))) (has_halted b) refl

  pub not_committed : (a b c : Pages D g) → Passed a b → ((disk_in c).is_honest → (disk_in b).is_honest) → (e : StoreError) → FittingErr b c e → SweepErr a c e
  not_committed a b c passed honest Memory why = subst (λ (p : Pages D g). IsQuiet a p) (sym why) passed.quiet
  not_committed a b c passed honest DeviceFault why = inl (failed_after a b c passed honest why)
  not_committed a b c passed honest _ why = absurd why

  -- ---- a check before a sweep
  pub not_checked : (t : Txn) (a b : Pages D g) → IsBegun a t → IsQuiet a b → (e : TreeError) → SeekErr (Unit {0}) IsNewTidy t a b e → SweepErr a b (row_refusal e (has_halted b))
  not_checked t a b start quiet tree.NotAStore why = not_taken t a b start quiet tree.NotAStore
      (λ honest m holds has. why honest m holds (record { tidy = has.1.tidy; new = has.1.version }))
  not_checked t a b start quiet tree.DeviceFault why = not_taken t a b start quiet tree.DeviceFault why
  not_checked t a b start quiet tree.Halted why = not_taken t a b start quiet tree.Halted why
  not_checked t a b start quiet tree.Memory why = not_taken t a b start quiet tree.Memory why
  not_checked t a b start quiet _ why = absurd why
