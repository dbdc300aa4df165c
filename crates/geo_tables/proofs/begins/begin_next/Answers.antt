use Rattle.{std.proofs.Common.{◌≡◌, ℕ, Err, Option, Some, refl, subst, arith}, desk_store_pages.specs.{Errors.tree_refusal, declared.error.StoreError.TheVariants.Full}}
use Rattle.{geo_tables.specs.Loads.{Begins, HasBegun}, page_store.specs.declared.{pages.Pages.Pages, txn.Txn.Txn}, sector_device.specs.declared.SectorDevice.Ghosts}
use Rattle.geo_tables.proofs.{Joins.{desk_leaves, quiet_leaves}, Refused.{next_refused, next_exhausted}, Staged.{put_fits, begun_told, begun_desk, begun_holds}}
use Rattle.geo_tables.proofs.Steps.{commits_after, not_stepped, step_made, step_told}
use Rattle.geo_tables.proofs.begins.begin_next.Goals as goal

begun_in : {D : Type 0} {g : Ghosts D} {t u : Txn} {a b : Pages D g} {load : ℕ} {taken : Option ℕ} → taken ≡ Some load → Begins t u a b taken → HasBegun load t u a b
begun_in {t = t} {u = u} {a = a} {b = b} is put = subst (Begins t u a b) is put

pub returns-in_err-begin_rows-clause-any_moment : goal.returns-in_err-begin_rows-clause-any_moment
returns-in_err-begin_rows-clause-any_moment g c = λ honest. quiet_leaves c.begin_rows.ensures.quiet honest c.requires.started.working

pub returns-in-None-clause-any_moment : goal.returns-in-None-clause-any_moment
returns-in-None-clause-any_moment g c = λ honest. quiet_leaves c.begin_rows.ensures.quiet honest c.requires.started.working

pub commit_fitting-requires-clause-few : goal.commit_fitting-requires-clause-few
commit_fitting-requires-clause-few g c = put_fits c.requires.started (begun_in c.in-Some.is c.in_ok-begin_rows.ensures.put).put (omega arith)

pub returns-in_err-commit_fitting-in-Some-clause-any_moment : goal.returns-in_err-commit_fitting-in-Some-clause-any_moment
returns-in_err-commit_fitting-in-Some-clause-any_moment g c = λ honest sectors d whole holds. desk_leaves c.begin_rows.ensures.quiet c.commit_fitting.ensures honest c.requires.started.working sectors d whole holds
    (λ then. begun_desk c.requires.started (begun_in c.in-Some.is c.in_ok-begin_rows.ensures.put) d then holds)

pub returns-in_ok-commit_fitting-in-Some-clause-any_moment : goal.returns-in_ok-commit_fitting-in-Some-clause-any_moment
returns-in_ok-commit_fitting-in-Some-clause-any_moment g c = λ honest sectors d whole holds. desk_leaves c.begin_rows.ensures.quiet c.commit_fitting.ensures honest c.requires.started.working sectors d whole holds
    (λ then. begun_desk c.requires.started (begun_in c.in-Some.is c.in_ok-begin_rows.ensures.put) d then holds)

pub returns-in_ok-commit_fitting-in-Some-clause-begun : goal.returns-in_ok-commit_fitting-in-Some-clause-begun
returns-in_ok-commit_fitting-in-Some-clause-begun g c = λ honest d holds. begun_holds c.requires.started (begun_in c.in-Some.is c.in_ok-begin_rows.ensures.put) d c.requires.unsealed
    (c.commit_fitting.ensures.commits.honest honest) holds (λ m reads. (c.in_ok-commit_fitting-in-Some.ensures.held honest m reads).0)

pub returns-in_ok-commit_fitting-in-Some-clause-number : goal.returns-in_ok-commit_fitting-in-Some-clause-number
returns-in_ok-commit_fitting-in-Some-clause-number g c = λ honest. begun_told c.requires.started (begun_in c.in-Some.is c.in_ok-begin_rows.ensures.put) (c.commit_fitting.ensures.commits.honest honest)

pub returns-in_err-begin_rows-clause-step : goal.returns-in_err-begin_rows-clause-step
returns-in_err-begin_rows-clause-step g c =
    not_stepped (tree_refusal c.in_err-begin_rows.field-0.0) c.from_residual.result c.requires.started.working c.begin_rows.ensures.quiet c.from_residual.ensures.1
    (next_refused c.requires.started c.begin_rows.ensures.quiet c.in_err-begin_rows.field-0.0 c.in_err-begin_rows.ensures.put)

pub returns-in-None-clause-step : goal.returns-in-None-clause-step
returns-in-None-clause-step g c = not_stepped Full (Err Full) c.requires.started.working c.begin_rows.ensures.quiet refl (next_exhausted c.requires.started c.begin_rows.ensures.quiet
    (subst (Begins c.args.txn c.begin_rows.new.txn c.args.pages.now c.begin_rows.new.pages) c.in-None.is c.in_ok-begin_rows.ensures.put))

pub returns-in_err-commit_fitting-in-Some-clause-step : goal.returns-in_err-commit_fitting-in-Some-clause-step
returns-in_err-commit_fitting-in-Some-clause-step g c = step_told c.in_err-commit_fitting-in-Some.field-0.0 c.from_residual-in_err-commit_fitting-in-Some.result
    (commits_after (begun_in {t = c.args.txn} {u = c.begin_rows.new.txn} c.in-Some.is c.in_ok-begin_rows.ensures.put).put.passed c.requires.started.working c.requires.started (λ why. why) (λ why. why.1) _ c.in_err-commit_fitting-in-Some.ensures)
    c.from_residual-in_err-commit_fitting-in-Some.ensures.1

pub returns-in_ok-commit_fitting-in-Some-clause-step : goal.returns-in_ok-commit_fitting-in-Some-clause-step
returns-in_ok-commit_fitting-in-Some-clause-step g c = step_made
    (commits_after (begun_in {t = c.args.txn} {u = c.begin_rows.new.txn} c.in-Some.is c.in_ok-begin_rows.ensures.put).put.passed c.requires.started.working c.requires.started (λ why. why) (λ why. why.1) _ c.in_ok-commit_fitting-in-Some.ensures)
