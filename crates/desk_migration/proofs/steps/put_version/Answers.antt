use Rattle.{std.proofs.Common.{◌≡◌, ◌⊎◌, ◌≤◌, ◌+◌, ℕ, List, [], ◌∷◌, true, false, ◌∙◌, inl, inr, ⊎_elim, arith, ◌<◌, refl, sym, subst, rules}, desk_model.specs.claim.Desk.Desk}
use Rattle.{desk_migration.specs.{Puts.{version_rows, FinishErr, HoldsAll, free_of}, claim.Holding.AllAreHeld}, desk_store_pages.specs.{Commits.FittingErr, Errors.tree_refusal}}
use Rattle.desk_store_pages.specs.{Desks.{InPagesAs, InTxnAs}, Moments.StopsLeaveEither, claim.Puts.{HasPut, PutsErr}, declared.error.StoreError.StoreError}
use Rattle.{desk_store_pages.specs.claim.Desks.{IsMapOf, IsOldMap, OpensAs, OpensOld, OpensDesk, OpensEither, InPages as HoldsDesk}, desk_store_rows.specs.claim.Puts.Row}
use Rattle.{desk_store_pages.specs.declared.error.StoreError.TheVariants.{Memory, DeviceFault, Full}, desk_store_rows.specs.MigrationLaws.{VersionIsTold, as_new}}
use Rattle.{desk_store_rows.specs.claim.{Keys.{key_of, version, in_four}, Rows.KeyMap}, page_btree.specs.gets.{claim.Map.{InTxn, InPages}, declared.error.TreeError.TreeError}}
use Rattle.page_store.specs.{Calls.BeginsOver, claim.Transactions.{stored, disk_in, count_of, journal_of, has_halted, txn_writes, IsQuiet}, declared.pages.Pages.Pages}
use Rattle.{page_store.specs.{declared.txn.Txn.Txn, gate_journal.claim.Store.home}, sector_device.specs.{claim.{Disk.Image, Moments.LeavesOnly}, declared.SectorDevice.Ghosts}}
use Rattle.{desk_migration.proofs.Stepped.{commit_steps, halted_steps, refused_steps}, desk_store_pages.proofs.{Nearness.begun_near, Outcomes.err_of}}
use Rattle.{page_store.proofs.Stops.quiet_none, sector_device.proofs.Moments.{leaves_wider, on_ok}}
use Rattle.page_btree.proofs.gets.Outcomes.{map_err, on_ok as if_ok}
use Rattle.desk_store_opening.proofs.chunk_table.Committing.{IsBegun, both, commit_leaves, failed_after, quiet_leaves, begun_now}
use Rattle.page_btree.specs.gets.declared.error.TreeError.TheVariants as tree
use Rattle.desk_migration.proofs.steps.put_version.Given.{Over}
use Rattle.desk_migration.proofs.steps.put_version.Goals.{After-begin-txn, In_ok-put_row}
use Rattle.desk_migration.proofs.steps.put_version.Goals as goal

-- The end: the version's row is put, and it is committed.
told_map : VersionIsTold → (m : KeyMap) (d : Desk) → IsOldMap m d → AllAreHeld m → IsMapOf true (as_new m) d
told_map law m d is all =
    let made = law m is.tidy (λ name plan number there named. all plan number named) in
    record { desk = made.desk d is.desk; tidy = made.tidy.0; version = made.tidy.2; limits = is.limits }

one_row : (k v : List ℕ) → k ≡ key_of version → v ≡ in_four 2 → ◌≡◌ {A = List Row} ((k, v) ∷ []) version_rows
one_row k v key value = λ i. (key i, value i) ∷ []

module _ {D : Type 0} {g : Ghosts D} where
  -- a stop in calls that read at most
  all_quiet : (a b : Pages D g) → IsQuiet a b → (disk_in b).is_honest → has_halted a ≡ false → (sectors : ℕ) (d : Desk) → home (journal_of a) + count_of a ≡ sectors → HoldsAll a d → LeavesOnly (OpensEither sectors d) (disk_in a) (disk_in b)
  all_quiet a b quiet honest working sectors d whole holds =
      leaves_wider (OpensOld sectors d) (OpensEither sectors d) (disk_in a) (disk_in b) (λ x opens. inr opens)
      (quiet_leaves false a b quiet honest working sectors d whole (record { m = holds.m; holds = holds.holds; is = holds.is }))

  room_now : (a : Pages D g) (free : ℕ) → ((disk_in a).is_honest → free ≡ free_of a) → 13 ≤ free → (disk_in a).is_honest → 13 ≤ free_of a
  room_now a free is enough honest = let same = is honest in omega arith

  -- ---- the row was put
  module _ (law : VersionIsTold) (t u : Txn) (a b : Pages D g) (start : IsBegun a t) (put : HasPut version_rows t u a b) where
    version_writes : txn_writes u ≤ 207
    version_writes = let writes = put.writes in let none = start.none in omega arith

    version_working : has_halted b ≡ false
    version_working = put.passed.halted ∙ start.working

    reads_new : (disk_in b).is_honest → (m : KeyMap) → InPages a m → InTxn u (stored b) (as_new m)
    reads_new honest m holds = rw (put.passed.quiet.same honest) (put.put honest m (start.reads (put.passed.quiet.honest honest) m holds))

    version_leaves : (c : Pages D g) → StopsLeaveEither (InPagesAs b) (InTxnAs u (stored b)) OpensAs b c → (disk_in b).is_honest → (disk_in c).is_honest → (sectors : ℕ) (d : Desk) → home (journal_of a) + count_of a ≡ sectors → HoldsAll a d → LeavesOnly (OpensEither sectors d) (disk_in a) (disk_in c)
    version_leaves c commit honest after sectors d whole holds =
        let P = λ (x : Image). OpensOld sectors d x ⊎ OpensDesk sectors d x in
        leaves_wider P (OpensEither sectors d) (disk_in a) (disk_in c) (λ x. ⊎_elim (λ old. inr old) (λ new. inl new))
        (commit_leaves false true u a b c put.passed.quiet honest start.working (λ s x y. commit after version_working s (false, x) (true, y)) sectors d d whole (record { m = holds.m; holds = holds.holds; is = holds.is })
        (record { m = as_new holds.m; holds = reads_new honest holds.m holds.holds; is = told_map law holds.m d holds.is holds.all }))

    version_holds : (c : Pages D g) → ((m : KeyMap) → InTxn u (stored b) m → InPages c m) → (disk_in b).is_honest → (d : Desk) → HoldsAll a d → HoldsDesk c d
    version_holds c committed honest d holds = record { m = as_new holds.m; holds = committed (as_new holds.m) (reads_new honest holds.m holds.holds); is = told_map law holds.m d holds.is holds.all }

    version_not_committed : (c : Pages D g) → ((disk_in a).is_honest → 13 ≤ free_of a) → ((disk_in c).is_honest → (disk_in b).is_honest) → (e : StoreError) → FittingErr b c e → FinishErr a c e
    version_not_committed c room honest Memory why = (rw why put.passed.quiet, λ is. room (put.passed.quiet.honest (honest is)))
    version_not_committed c room honest DeviceFault why = (λ is. room (put.passed.quiet.honest (honest is)), failed_after a b c put.passed honest why)
    version_not_committed c room honest _ why = absurd why

  -- ---- it wasn't
  version_not_put : (t : Txn) (a b : Pages D g) → IsBegun a t → BeginsOver a t → IsQuiet a b → ((disk_in a).is_honest → 13 ≤ free_of a) → (e : TreeError) → PutsErr version_rows t a b e → FinishErr a b (tree_refusal e)
  version_not_put t a b start begins quiet room tree.DeviceFault why = (λ honest. room (quiet.honest honest), why)
  version_not_put t a b start begins quiet room tree.NotAStore why = (quiet, λ honest d holds. why honest holds.m (start.reads (quiet.honest honest) holds.m holds.holds))
  version_not_put t a b start begins quiet room tree.Halted why = both (has_halted a) why start.working
  version_not_put t a b start begins quiet room tree.NoPages why = (quiet, inl (λ honest. let free = start.free (quiet.honest honest) in omega arith))
  version_not_put t a b start begins quiet room tree.TooDeep why = (
    quiet,
    inr (λ honest m holds.
        let before = quiet.honest honest in
        let deep = why honest m (start.reads before m holds) in
        ((t, deep.0), begun_near 1 t a begins start.working before deep.1)),
  )
  version_not_put t a b start begins quiet room tree.Memory why = (quiet, λ honest. room (quiet.honest honest))

begun : (g : Over) (c : After-begin-txn g) → IsBegun c.args.pages.now c.begin-txn.result
begun g c = begun_now c.args.pages.now c.begin-txn.result (sym c.is_halted.ensures ∙ c.if-is_halted.false) c.begin-txn.ensures.none c.begin-txn.ensures.pages c.begin-txn.ensures.over c.begin-txn.ensures.root c.begin-txn.ensures.free

put : (g : Over) (c : In_ok-put_row g) → HasPut version_rows c.begin-txn.result c.put_row.new.txn c.args.pages.now c.put_row.new.pages
put g c = rw (one_row c.version.result c.to_be_bytes.result c.version.ensures c.to_be_bytes.ensures) at c.in_ok-put_row.ensures.puts.put

pub returns-then-is_halted : goal.returns-then-is_halted
returns-then-is_halted g c =
    let ps = c.args.pages.now in
    let halted = sym c.is_halted.ensures ∙ c.if-is_halted.true in
    search (rules, all_quiet ps ps (quiet_none ps), halted_steps {A = Unit {0}} ps, halted)

-- ---- too few pages are free
pub returns-then-free_pages-lt-ROW_PAGES : goal.returns-then-free_pages-lt-ROW_PAGES
returns-then-free_pages-lt-ROW_PAGES g c =
    let ps = c.args.pages.now in
    let working = sym c.is_halted.ensures ∙ c.if-is_halted.false in
    let short : (disk_in ps).is_honest → free_of ps < 13 = λ honest. let same = c.free_pages.ensures working honest in omega arith in
    record { steps = refused_steps ps ps _ Full (quiet_none ps) working refl; any_moment = all_quiet ps ps (quiet_none ps); told = search rules; room = search rules; err = (quiet_none ps, inl short) }

-- ---- the row isn't put
pub returns-in_err-put_row-clause-steps : goal.returns-in_err-put_row-clause-steps
returns-in_err-put_row-clause-steps g c = refused_steps c.args.pages.now c.put_row.new.pages _ (tree_refusal c.in_err-put_row.field-0.0) c.in_err-put_row.ensures.puts.quiet (sym c.is_halted.ensures ∙ c.if-is_halted.false) c.from_residual.ensures.1

pub returns-in_err-put_row-clause-any_moment : goal.returns-in_err-put_row-clause-any_moment
returns-in_err-put_row-clause-any_moment g c = all_quiet c.args.pages.now c.put_row.new.pages c.in_err-put_row.ensures.puts.quiet

pub returns-in_err-put_row-clause-err : goal.returns-in_err-put_row-clause-err
returns-in_err-put_row-clause-err g c =
    let at = goal.at.returns-in_err-put_row-clause-err g c in
    let e = c.in_err-put_row.field-0.0 in
    err_of c.from_residual.result (tree_refusal e) (FinishErr c.args.pages.now c.put_row.new.pages) c.from_residual.ensures.1
    (version_not_put c.begin-txn.result c.args.pages.now c.put_row.new.pages (begun g at.After-begin-txn) c.begin-txn.ensures c.in_err-put_row.ensures.puts.quiet (room_now c.args.pages.now c.free_pages.result (c.free_pages.ensures (sym c.is_halted.ensures ∙ c.if-is_halted.false)) c.if-free_pages-lt-ROW_PAGES.false) e (subst (λ (rows : List Row). PutsErr rows c.begin-txn.result c.args.pages.now c.put_row.new.pages e) (one_row c.version.result c.to_be_bytes.result c.version.ensures c.to_be_bytes.ensures) c.in_err-put_row.ensures.puts.put))

-- ---- the commit
pub commit_fitting-requires-clause-working : goal.commit_fitting-requires-clause-working
commit_fitting-requires-clause-working g c = search (rules, version_working, c.version_is_told.ensures, begun)

pub commit_fitting-requires-clause-few : goal.commit_fitting-requires-clause-few
commit_fitting-requires-clause-few g c = search (rules, version_writes, c.version_is_told.ensures, begun, put)

pub returns : goal.returns
returns g c =
    let at = goal.at.returns g c in
    let a = c.args.pages.now in
    let b = c.put_row.new.pages in
    let e = c.commit_fitting.new.pages in
    let law = c.version_is_told.ensures in
    let t = c.begin-txn.result in
    let u = c.put_row.new.txn in
    let start = begun g at.After-begin-txn in
    let did = put g at.In_ok-put_row in
    let working = sym c.is_halted.ensures ∙ c.if-is_halted.false in
    let commit = c.commit_fitting.ensures in
    let room = room_now a c.free_pages.result (c.free_pages.ensures working) c.if-free_pages-lt-ROW_PAGES.false in
    record {
      steps = commit_steps c.commit_fitting.result did.passed working commit (λ P is. is);
      any_moment = λ honest off. version_leaves law t u a b start did e commit.any_version (commit.commits.honest honest) honest;
      told = λ honest d holds. on_ok c.commit_fitting.result (λ committed. version_holds law t u a b start did e (λ m reads. (committed m reads).0) (commit.commits.honest honest) d holds) (commit.held honest);
      room = λ honest. if_ok c.commit_fitting.result _ (room (did.passed.quiet.honest (commit.commits.honest honest)));
      err = map_err c.commit_fitting.result _ _ (λ x why. version_not_committed law t u a b start did e room commit.commits.honest x why) commit.err;
    }
