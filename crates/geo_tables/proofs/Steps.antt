-- What a commit of rows comes to, exit by exit.
use Rattle.{std.{specs.Prelude.{Result, IsErrAnd}, proofs.Common.{◌≡◌, ℕ, Ok, Err, false, true, refl, sym, subst, ◌∙◌, arith}}, desk_store_pages.specs.Calls.CommitsFitting}
use Rattle.{desk_store_pages.specs.{Commits.FittingErr, declared.error.StoreError.{StoreError, TheVariants.{DeviceFault, Halted, Memory}}}, page_store.specs.declared.txn.Txn.Txn}
use Rattle.{geo_tables.{specs.{Refusals.{CommitsRows, HasRoom}, Starting.{IsStarted, StartErr}}, proofs.Refused.{both, room_after}}, page_store.specs.declared.pages.Pages.Pages}
use Rattle.{page_store.specs.claim.Transactions.{disk_in, has_halted, HasFailed, HasShape, IsKept, IsQuiet, Passed}, sector_device.specs.declared.SectorDevice.Ghosts}
use Rattle.geo_tables.proofs.Joins.{failed_after, room_of, shape_after}

module _ {D T : Type 0} {g : Ghosts D} {rows : ℕ} {failed : StoreError → Type 0} {a b : Pages D g} where
  -- pages that work were not changed but for a fault
  pub step_failed : (e : StoreError) (r : Result T StoreError) → has_halted a ≡ false → HasShape a b → ((disk_in b).is_honest → (disk_in a).is_honest) → IsErrAnd r (λ x. x ≡ e) → failed e → CommitsRows rows failed a b r
  step_failed e r working shape honest is why = search (arith, both)

  -- they were read at most
  pub not_stepped : (e : StoreError) (r : Result T StoreError) → has_halted a ≡ false → IsQuiet a b → IsErrAnd r (λ x. x ≡ e) → failed e → CommitsRows rows failed a b r
  not_stepped e r working quiet is why = step_failed e r working (record { journal_pages = quiet.journal; pages = quiet.count }) quiet.honest is why

  -- rows were committed
  stepped : {x : T} → has_halted a ≡ false → has_halted b ≡ false → HasShape a b → ((disk_in b).is_honest → (disk_in a).is_honest) → ((disk_in b).is_honest → IsKept b)
      → ((disk_in b).is_honest → (disk_in b).faults ≡ (disk_in a).faults) → HasRoom rows a b → CommitsRows rows failed a b (Ok x)
  stepped working works shape honest kept passed room = search (arith, both)

same_shape : {D : Type 0} {g : Ghosts D} (a : Pages D g) → HasShape a a
same_shape a = record { journal_pages = refl; pages = refl }

-- no transaction was begun
module _ {D T : Type 0} {g : Ghosts D} {rows : ℕ} {failed : StoreError → Type 0} {a : Pages D g} where
  pub was_halted : (e : StoreError) (r : Result T StoreError) → (e ≡ Halted) × (has_halted a ≡ true) → IsErrAnd r (λ x. x ≡ e) → failed Halted → CommitsRows rows failed a a r
  was_halted e r halted is why = search (arith, same_shape)

  pub not_started : (e : StoreError) (r : Result T StoreError) → StartErr rows a e → IsErrAnd r (λ x. x ≡ e) → ((x : StoreError) → StartErr rows a x → failed x) → CommitsRows rows failed a a r
  not_started e r why is told = search (arith, step_failed, same_shape, told, was_halted)

-- after calls that read at most
module _ {D : Type 0} {g : Ghosts D} {rows : ℕ} {a b c : Pages D g} (read : Passed a b) (working : has_halted a ≡ false) where
  -- a step
  module _ {T U : Type 0} {before failed : StoreError → Type 0} where
    pub step_after : {x : T} {y : U} → CommitsRows rows before b c (Ok x) → CommitsRows rows failed a c (Ok y)
    step_after step = stepped working step.commits.ok.1 (shape_after read.quiet c step.commits.shape) (λ honest. read.quiet.honest (step.commits.honest honest)) step.commits.kept
        (λ honest. step.commits.passed honest ∙ read.faults (step.commits.honest honest)) (room_after rows a b c read.quiet step.commits.honest step.room)

    pub not_stepped_after : {e : StoreError} (r : Result U StoreError) → CommitsRows {T = T} rows before b c (Err e) → IsErrAnd r (λ x. x ≡ e) → failed e → CommitsRows rows failed a c r
    not_stepped_after {e} r step is why = step_failed e r working (shape_after read.quiet c step.commits.shape) (λ honest. read.quiet.honest (step.commits.honest honest)) is why

  -- a commit for which there is room
  module _ {t : Txn} (started : IsStarted rows a t) where
    unfinished : (failed : StoreError → Type 0) → (IsQuiet a c × HasRoom rows a c → failed Memory) → (HasRoom rows a c × HasFailed a c → failed DeviceFault) → (e : StoreError)
        → ((disk_in c).is_honest → (disk_in b).is_honest) → FittingErr b c e → failed e
    unfinished failed memory fault Memory honest why = memory (subst (λ (p : Pages D g). IsQuiet a p) (sym why) read.quiet, room_of started (λ h. read.quiet.honest (honest h)))
    unfinished failed memory fault DeviceFault honest why = fault (room_of started (λ h. read.quiet.honest (honest h)), failed_after read c honest why)
    unfinished failed memory fault _ honest why = absurd why

    pub commits_after : {failed : StoreError → Type 0} {u : Txn} → (IsQuiet a c × HasRoom rows a c → failed Memory) → (HasRoom rows a c × HasFailed a c → failed DeviceFault)
        → (r : Result (Unit {0}) StoreError) → CommitsFitting u b c r → CommitsRows rows failed a c r
    commits_after memory fault (Ok x) did = stepped working did.ok (shape_after read.quiet c did.commits.shape) (λ h. read.quiet.honest (did.commits.honest h)) did.commits.kept
        (λ h. did.commits.passed h ∙ read.faults (did.commits.honest h)) (room_of started (λ h. read.quiet.honest (did.commits.honest h)))
    commits_after {failed = failed} memory fault (Err e) did =
        step_failed e (Err e) working (shape_after read.quiet c did.commits.shape) (λ h. read.quiet.honest (did.commits.honest h)) refl
        (unfinished failed memory fault e did.commits.honest did.err)

module _ {D T U : Type 0} {g : Ghosts D} {rows : ℕ} {failed : StoreError → Type 0} {a b : Pages D g} where
  pub step_made : {x : T} {y : U} → CommitsRows rows failed a b (Ok x) → CommitsRows rows failed a b (Ok y)
  step_made step = stepped step.commits.ok.0 step.commits.ok.1 step.commits.shape step.commits.honest step.commits.kept step.commits.passed step.room

  pub step_told : (e : StoreError) (r : Result U StoreError) → CommitsRows {T = T} rows failed a b (Err e) → IsErrAnd r (λ x. x ≡ e) → CommitsRows rows failed a b r
  step_told e r step is = search (arith, step.still)
