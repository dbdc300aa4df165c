use Rattle.{std.proofs.Common.{Err, true, refl, sym, ◌∙◌, arith}, page_store.specs.claim.Transactions.has_halted, desk_store_pages.proofs.Kept.kept_working}
use Rattle.chunk_table.proofs.Committing.{both, quiet_leaves, quiet_shape, shape_after}
use Rattle.plan_revisions_sweeps.proofs.Stepped.{begun_by, none_swept, not_made, some_leaves, some_swept, not_taken, not_committed}
use Rattle.plan_revisions_sweeps.proofs.sweeps.sweep_step.Goals as goal

-- ---- halted
pub returns-then-is_halted-clause-commits : goal.returns-then-is_halted-clause-commits
returns-then-is_halted-clause-commits g c = not_made _ _ (record { journal_pages = refl; pages = refl }) (λ h. h) refl (sym c.is_halted.ensures ∙ c.if-is_halted.true, refl)

pub returns-then-is_halted-clause-any_moment : goal.returns-then-is_halted-clause-any_moment
returns-then-is_halted-clause-any_moment g c = λ honest working sectors d whole holds. both (has_halted c.args.pages.now) (sym c.is_halted.ensures ∙ c.if-is_halted.true) working

-- ---- no row was taken
pub returns-in-Err-clause-commits : goal.returns-in-Err-clause-commits
returns-in-Err-clause-commits g c =
    let begun = begun_by (sym c.is_halted.ensures ∙ c.if-is_halted.false) c.begin-txn.ensures in
    let quiet = c.in-Err.ensures.quiet in
    not_made c.row_error.result (Err c.row_error.result) (quiet_shape c.args.pages.now c.sweep_rows.new.pages quiet) quiet.honest refl
    (rw (c.row_error.ensures, c.is_halted-in-Err.ensures) (not_taken _ _ _ begun quiet c.in-Err.error c.in-Err.ensures.put))

pub returns-in-Err-clause-any_moment : goal.returns-in-Err-clause-any_moment
returns-in-Err-clause-any_moment g c = quiet_leaves true c.args.pages.now c.sweep_rows.new.pages c.in-Err.ensures.quiet

pub returns-in-Err-clause-still : goal.returns-in-Err-clause-still
returns-in-Err-clause-still g c = λ halted. both (has_halted c.args.pages.now) halted (sym c.is_halted.ensures ∙ c.if-is_halted.false)

-- ---- none was left
pub returns-then-count-eq0-clause-commits : goal.returns-then-count-eq0-clause-commits
returns-then-count-eq0-clause-commits g c =
    let working = sym c.is_halted.ensures ∙ c.if-is_halted.false in
    let passed = c.in-Ok.ensures.put.swept.passed in
    let works = passed.halted ∙ working in
    let shape = quiet_shape c.args.pages.now c.sweep_rows.new.pages c.in-Ok.ensures.quiet in
    let kept = kept_working c.sweep_rows.new.pages works in
    record { shape = shape; honest = c.in-Ok.ensures.quiet.honest; kept = kept; passed = passed.faults; ok = (working, works); err = tt }

pub returns-then-count-eq0-clause-any_moment : goal.returns-then-count-eq0-clause-any_moment
returns-then-count-eq0-clause-any_moment g c = quiet_leaves true c.args.pages.now c.sweep_rows.new.pages c.in-Ok.ensures.quiet

pub returns-then-count-eq0-clause-swept : goal.returns-then-count-eq0-clause-swept
returns-then-count-eq0-clause-swept g c =
    let begun = begun_by (sym c.is_halted.ensures ∙ c.if-is_halted.false) c.begin-txn.ensures in
    none_swept c.args.running c.in-Ok.count _ _ _ _ begun c.in-Ok.ensures.put.swept c.in-Ok.ensures.put.clean c.if-count-eq0.true

pub returns-then-count-eq0-clause-still : goal.returns-then-count-eq0-clause-still
returns-then-count-eq0-clause-still g c = λ halted. both (has_halted c.args.pages.now) halted (sym c.is_halted.ensures ∙ c.if-is_halted.false)

-- ---- the commit
pub commit_fitting-requires-clause-working : goal.commit_fitting-requires-clause-working
commit_fitting-requires-clause-working g c = c.in-Ok.ensures.put.swept.passed.halted ∙ sym c.is_halted.ensures ∙ c.if-is_halted.false

pub commit_fitting-requires-clause-few : goal.commit_fitting-requires-clause-few
commit_fitting-requires-clause-few g c =
    let none = c.begin-txn.ensures.none in let few = c.in-Ok.ensures.put.few in let writes = c.in-Ok.ensures.put.swept.writes in
    let least = c.sweep_rows.new.pages.journal.room.least_journal in
    omega arith

pub returns-in_err-commit_fitting-clause-commits : goal.returns-in_err-commit_fitting-clause-commits
returns-in_err-commit_fitting-clause-commits g c =
    let ps = c.args.pages.now in
    let b = c.sweep_rows.new.pages in
    let d = c.commit_fitting.new.pages in
    let did = c.in_err-commit_fitting.ensures in
    not_made c.in_err-commit_fitting.field-0.0 c.from_residual.result (shape_after ps b d c.in-Ok.ensures.quiet did.commits.shape) (λ honest. c.in-Ok.ensures.quiet.honest (did.commits.honest honest)) c.from_residual.ensures.1
    (not_committed ps b d c.in-Ok.ensures.put.swept.passed did.commits.honest _ did.err)

pub returns-in_err-commit_fitting-clause-any_moment : goal.returns-in_err-commit_fitting-clause-any_moment
returns-in_err-commit_fitting-clause-any_moment g c = λ honest working sectors d whole holds.
    let begun = begun_by (sym c.is_halted.ensures ∙ c.if-is_halted.false) c.begin-txn.ensures in
    some_leaves c.args.running c.in-Ok.count _ _ _ _ c.commit_fitting.new.pages begun c.in-Ok.ensures.put.swept (c.in_err-commit_fitting.ensures.any_moment honest)
    (c.in_err-commit_fitting.ensures.commits.honest honest) sectors d whole holds

pub returns-in_err-commit_fitting-clause-still : goal.returns-in_err-commit_fitting-clause-still
returns-in_err-commit_fitting-clause-still g c = λ halted. both (has_halted c.args.pages.now) halted (sym c.is_halted.ensures ∙ c.if-is_halted.false)

pub returns-clause-commits : goal.returns-clause-commits
returns-clause-commits g c =
    let did = c.in_ok-commit_fitting.ensures in
    let passed = c.in-Ok.ensures.put.swept.passed in
    record {
      shape = shape_after c.args.pages.now c.sweep_rows.new.pages c.commit_fitting.new.pages c.in-Ok.ensures.quiet did.commits.shape;
      honest = λ honest. c.in-Ok.ensures.quiet.honest (did.commits.honest honest);
      kept = did.commits.kept;
      passed = λ honest. did.commits.passed honest ∙ passed.faults (did.commits.honest honest);
      ok = (sym c.is_halted.ensures ∙ c.if-is_halted.false, did.ok);
      err = tt;
    }

pub returns-clause-any_moment : goal.returns-clause-any_moment
returns-clause-any_moment g c = λ honest working sectors d whole holds.
    let begun = begun_by (sym c.is_halted.ensures ∙ c.if-is_halted.false) c.begin-txn.ensures in
    some_leaves c.args.running c.in-Ok.count _ _ _ _ c.commit_fitting.new.pages begun c.in-Ok.ensures.put.swept (c.in_ok-commit_fitting.ensures.any_moment honest)
    (c.in_ok-commit_fitting.ensures.commits.honest honest) sectors d whole holds

pub returns-clause-swept : goal.returns-clause-swept
returns-clause-swept g c = λ honest.
    let begun = begun_by (sym c.is_halted.ensures ∙ c.if-is_halted.false) c.begin-txn.ensures in
    some_swept c.args.running c.in-Ok.count _ _ _ _ c.commit_fitting.new.pages begun c.in-Ok.ensures.put.swept c.in-Ok.ensures.put.clean c.if-count-eq0.false
    (c.in_ok-commit_fitting.ensures.held honest) (c.in_ok-commit_fitting.ensures.commits.honest honest)

pub returns-clause-still : goal.returns-clause-still
returns-clause-still g c = λ halted. both (has_halted c.args.pages.now) halted (sym c.is_halted.ensures ∙ c.if-is_halted.false)
