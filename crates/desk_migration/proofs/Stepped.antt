-- A step: a transaction that is begun, in which pairs come to be held, and that is committed then.
use Rattle.{std.specs.Prelude.{Result, OnOk, IfErr, IsErrAnd}, desk_migration.specs.{Parts.IsUnderWay, claim.Holding.{AllAreHeld, AreHeldTo, IsHeldBy}}}
use Rattle.std.proofs.Common.{rules, ◌≡◌, ◌⊎◌, ◌<◌, ◌≤◌, ◌+◌, ◌*◌, ℕ, true, false, List, Ok, Err, refl, sym, subst, ◌∙◌, inl, inr, ⊎_elim, arith}
use Rattle.{desk_migration.specs.Puts.{IsHeldMap, HasHeld, HoldErr, HoldsMore, HoldsTo, StepErr, Steps, TellsFaults, free_of}, desk_model.specs.claim.Desk.Desk}
use Rattle.desk_store_pages.{specs.{Calls.CommitsFitting, Commits.FittingErr, Desks.{InPagesAs, InTxnAs}, Errors.tree_refusal, Moments.StopsLeaveEither}, proofs.Kept.kept_working}
use Rattle.desk_store_pages.specs.{claim.Desks.{IsOldMap, OpensAs, OpensOld}, declared.error.StoreError.{StoreError, TheVariants.{Full, Memory, DeviceFault, Halted}}}
use Rattle.{desk_store_rows.specs.{MigrationLaws.NamedIsHeld, claim.Rows.KeyMap}, page_btree.specs.gets.{claim.Map.{InTxn, InPages}, declared.error.TreeError.TreeError}}
use Rattle.page_store.specs.{Calls.BeginsOver, claim.Transactions.{stored, disk_in, count_of, journal_of, has_halted, txn_writes, IsKept, IsQuiet, IsSame, Passed}}
use Rattle.{page_store.specs.{declared.{pages.Pages.Pages, txn.Txn.Txn}, gate_journal.claim.Store.home}, sector_device.specs.claim.{Disk.Image, Moments.LeavesOnly}}
use Rattle.{sector_device.specs.declared.SectorDevice.Ghosts, desk_migration.proofs.Pairs.{map_by, none_by, same_map}, desk_store_pages.proofs.Nearness.begun_near}
use Rattle.{page_store.proofs.Stops.quiet_none, sector_device.proofs.Moments.{leaves_wider, on_ok}}
use Rattle.page_btree.specs.gets.declared.error.TreeError.TheVariants as tree
use Rattle.desk_store_opening.proofs.chunk_table.Committing.{IsBegun, both, commit_leaves, failed_after, quiet_leaves, quiet_rows, quiet_shape, shape_after}

-- room enough
pub no_room : (count free left : ℕ) → free ≡ left → 26 * count ≤ free → 13 * (2 * count) ≤ left
no_room count free left same enough = omega arith

module _ {D : Type 0} {g : Ghosts D} where
  -- ---- faults
  pub quiet_faults : (a b : Pages D g) → IsQuiet a b → TellsFaults a b
  quiet_faults a b quiet = record { rose = quiet.rose; calm = quiet.calm }

  -- a call that read at most, and came to nothing
  pub quiet_steps : {A : Type 0} (a b : Pages D g) (r : Result A StoreError) (e : StoreError) → IsQuiet a b → (has_halted a ≡ true → (r ≡ Err Halted) × IsSame a b) → IsErrAnd r (λ x. x ≡ e) → Steps a b r
  quiet_steps a b (Ok x) e quiet still is = absurd is
  quiet_steps a b (Err x) e quiet still is = search (quiet_shape, quiet.honest)

  pub halted_steps : {A : Type 0} (a : Pages D g) → Steps {A = A} a a (Err Halted)
  halted_steps {A} a = quiet_steps {A = A} a a (Err Halted) Halted (quiet_none a) (λ halted. (refl, refl)) refl

  -- a call that passed over pages that work
  pub none_steps : {A : Type 0} {v : A} (a b : Pages D g) → Passed a b → has_halted a ≡ false → Steps a b (Ok v)
  none_steps a b passed working =
      let works = passed.halted ∙ working in
      record { shape = quiet_shape a b passed.quiet; honest = passed.quiet.honest; kept = kept_working b works; faults = quiet_faults a b passed.quiet; ok = (working, works); still = λ halted. both (has_halted a) halted working }

  pub refused_steps : {A : Type 0} (a b : Pages D g) (r : Result A StoreError) (e : StoreError) → IsQuiet a b → has_halted a ≡ false → IsErrAnd r (λ x. x ≡ e) → Steps a b r
  refused_steps a b r e quiet working is = quiet_steps a b r e quiet (λ halted. both (has_halted a) halted working) is

  pub commit_faults : (a b c : Pages D g) → Passed a b → ((disk_in c).is_honest → (disk_in b).is_honest) → (e : StoreError) → FittingErr b c e → TellsFaults a c
  commit_faults a b c ab bc Memory why = subst (λ (p : Pages D g). TellsFaults a p) (sym why) (quiet_faults a b ab.quiet)
  commit_faults a b c ab bc _ why = search (rules, failed_after)

  -- what a commit tells of faults
  pub no_faults : (a b c : Pages D g) → Passed a b → ((disk_in c).is_honest → (disk_in b).is_honest) → has_halted c ≡ false → ((disk_in c).is_honest → (disk_in c).faults ≡ (disk_in b).faults) → TellsFaults a c
  no_faults a b c ab bc works passed = search rules

  pub either_faults : {T : Type 0} (a b c : Pages D g) (r : Result T StoreError) → Passed a b → ((disk_in c).is_honest → (disk_in b).is_honest) → OnOk r (has_halted c ≡ false) → ((disk_in c).is_honest → OnOk r ((disk_in c).faults ≡ (disk_in b).faults)) → IfErr r (FittingErr b c) → TellsFaults a c
  either_faults a b c (Ok x) ab honest works passed why = no_faults a b c ab honest works passed
  either_faults a b c (Err e) ab honest works passed why = commit_faults a b c ab honest e why

  -- calls that passed, and a commit of what they left
  pub commit_steps : {A : Type 0} {t : Txn} {s : Result (Unit {0}) StoreError} {a b c : Pages D g} (r : Result A StoreError) → Passed a b → has_halted a ≡ false → CommitsFitting t b c s → ((P : Type 0) → OnOk s P → OnOk r P) → Steps a c r
  commit_steps {A} {t} {s} {a} {b} {c} r passed working commit gives = record {
    shape = shape_after a b c passed.quiet commit.commits.shape;
    honest = λ honest. passed.quiet.honest (commit.commits.honest honest);
    kept = λ honest. gives (IsKept c) (commit.commits.kept honest);
    faults = either_faults a b c s passed commit.commits.honest commit.ok commit.commits.passed commit.err;
    ok = gives ((has_halted a ≡ false) × (has_halted c ≡ false)) (on_ok s (λ works. (working, works)) commit.ok);
    still = λ halted. both (has_halted a) halted working;
  }

  -- ---- pairs that came to be held
  more_of : (n m : KeyMap) (d : Desk) (pairs : ℕ) (next : List ℕ) (ps : Pages D g) → InPages ps n → IsOldMap n d → AreHeldTo next n → IsHeldBy pairs m n → (pairs < 8 → AllAreHeld n) → HoldsMore (2 * pairs) m d next ps
  more_of n m d pairs next ps holds is done by all = record { n = n; holds = holds; is = is; done = done; pairs = pairs; two_each = refl; by = by; clean = λ few. all (omega arith) }

  module _ (law : NamedIsHeld) (count : ℕ) (from next : List ℕ) (t u : Txn) (a b : Pages D g) (start : IsBegun a t) (held : HasHeld (count < 8) count from next t u a b) where
    pub held_of : (disk_in b).is_honest → (m : KeyMap) → InPages a m → IsUnderWay from m → IsHeldMap (count < 8) count (AreHeldTo next) u (stored a) m
    held_of honest m holds way = held.held honest m (start.reads (held.passed.quiet.honest honest) m holds) way

    -- the same over the pages then, and the desk stays
    taken_of : (disk_in b).is_honest → (m : KeyMap) (d : Desk) → InPages a m → IsOldMap m d → AreHeldTo from m → (taken : IsHeldMap (count < 8) count (AreHeldTo next) u (stored b) m) × IsOldMap taken.n d
    taken_of honest m d holds is done =
        let was = held_of honest m holds (record { tidy = is.tidy; done = done }) in
        let reads : InTxn u (stored b) was.n = rw (held.passed.quiet.same honest) was.reads in
        (record { n = was.n; reads = reads; by = was.by; done = was.done; all = was.all }, map_by law count m was.n false d was.by is)

    pub taken_writes : count ≤ 8 → txn_writes u ≤ 207
    taken_writes few = let writes = held.writes in let none = start.none in omega arith

    pub still_working : has_halted b ≡ false
    still_working = held.passed.halted ∙ start.working

    -- none did
    pub none_more : count ≡ 0 → (disk_in b).is_honest → (m : KeyMap) (d : Desk) → InPages a m → IsOldMap m d → AreHeldTo from m → HoldsMore 0 m d from b
    none_more zero honest m d holds is done =
        let taken = (taken_of honest m d holds is done).0 in
        more_of m m d 0 from b (quiet_rows a b held.passed.quiet honest m holds) is done (none_by m) (λ few. subst AllAreHeld (same_map count m taken.n zero taken.by) (taken.all (omega arith)))

    -- some did, and it is committed
    pub some_more : (c : Pages D g) → ((m : KeyMap) → InTxn u (stored b) m → InPages c m) → (disk_in b).is_honest → (m : KeyMap) (d : Desk) → InPages a m → IsOldMap m d → AreHeldTo from m → HoldsMore (2 * count) m d next c
    some_more c committed honest m d holds is done =
        let (taken, old) = taken_of honest m d holds is done in
        more_of taken.n m d count next c (committed taken.n taken.reads) old taken.done taken.by taken.all

    pub some_leaves : (c : Pages D g) → StopsLeaveEither (InPagesAs b) (InTxnAs u (stored b)) OpensAs b c → (disk_in b).is_honest → (disk_in c).is_honest → (sectors : ℕ) (d : Desk) → home (journal_of a) + count_of a ≡ sectors → HoldsTo from a d → LeavesOnly (OpensOld sectors d) (disk_in a) (disk_in c)
    some_leaves c commit honest after sectors d whole holds =
        let (taken, old) = taken_of honest holds.m d holds.holds holds.is holds.done in
        let P = λ (x : Image). OpensOld sectors d x ⊎ OpensOld sectors d x in
        leaves_wider P (OpensOld sectors d) (disk_in a) (disk_in c) (λ x. ⊎_elim (λ opens. opens) (λ opens. opens))
        (commit_leaves false false u a b c held.passed.quiet honest start.working (λ s x y. commit after still_working s (false, x) (false, y)) sectors d d whole (record { m = holds.m; holds = holds.holds; is = holds.is }) (record { m = taken.n; holds = taken.reads; is = old }))

    -- too few pages are free for the rows
    pub short_of : (free : ℕ) → ((disk_in a).is_honest → free ≡ free_of a) → free < 26 * count → count ≤ 8 → StepErr from a b Full
    short_of free is short few = (
      held.passed.quiet,
      λ honest m holds way.
          let was = held_of honest m holds way in
          let same = is (held.passed.quiet.honest honest) in
          inl (record { pairs = count; few = few; n = was.n; by = was.by; short = omega arith }),
    )

    pub not_committed : (c : Pages D g) → ((disk_in c).is_honest → (disk_in b).is_honest) → (e : StoreError) → FittingErr b c e → StepErr from a c e
    not_committed c honest Memory why = rw why held.passed.quiet
    not_committed c honest DeviceFault why = failed_after a b c held.passed honest why
    not_committed c honest _ why = absurd why

  -- a stop in calls that read at most
  pub to_quiet : (from : List ℕ) (a b : Pages D g) → IsQuiet a b → (disk_in b).is_honest → has_halted a ≡ false → (sectors : ℕ) (d : Desk) → home (journal_of a) + count_of a ≡ sectors → HoldsTo from a d → LeavesOnly (OpensOld sectors d) (disk_in a) (disk_in b)
  to_quiet from a b quiet honest working sectors d whole holds = quiet_leaves false a b quiet honest working sectors d whole (record { m = holds.m; holds = holds.holds; is = holds.is })

  -- ---- refusals
  pub not_taken : (from : List ℕ) (t : Txn) (a b : Pages D g) → IsBegun a t → BeginsOver a t → IsQuiet a b → (e : TreeError) → HoldErr 8 from t a b e → StepErr from a b (tree_refusal e)
  not_taken from t a b start begins quiet tree.NotAStore why = (quiet, λ honest d holds. why honest holds.m (start.reads (quiet.honest honest) holds.m holds.holds) (record { tidy = holds.is.tidy; done = holds.done }))
  not_taken from t a b start begins quiet tree.Halted why = both (has_halted a) why start.working
  not_taken from t a b start begins quiet tree.NoPages why = (
    quiet,
    λ honest m holds way.
        let before = quiet.honest honest in
        let want = why honest m (start.reads before m holds) way in
        let short = want.short in
        let free = start.free before in
        inl (record { pairs = want.count; few = want.few; n = want.n; by = want.by; short = omega arith }),
  )
  not_taken from t a b start begins quiet tree.TooDeep why = (
    quiet,
    λ honest m holds way.
        let before = quiet.honest honest in
        let deep = why honest m (start.reads before m holds) way in
        inr (deep.0, begun_near 16 t a begins start.working before deep.1),
  )
  not_taken from t a b start begins quiet _ why = search rules
