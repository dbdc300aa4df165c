use Rattle.{std.proofs.{Common.{◌≡◌, ◌+◌, ℕ, arith}, lemmas.Result.on_ok_weaker}, desk_model.specs.claim.Geography.GeographyModel, desk_store_pages.specs.Errors.tree_refusal}
use Rattle.{desk_store_pages.specs.claim.{Desks.OpensDesk, Puts.HasPut}, geo_tables.specs.{Loading.{number_of, geography_model_of, done_of}, Rows.staged_rows}}
use Rattle.{geo_tables.specs.declared.load.Load.Load, page_store.{specs.{claim.Transactions.disk_in, declared.{pages.Pages.Pages, txn.Txn.Txn}}, proofs.Stops.leaves_here}}
use Rattle.{sector_device.specs.declared.SectorDevice.Ghosts, desk_store_pages.proofs.Kept.opens_now, geo_tables.proofs.Joins.{desk_leaves, quiet_leaves}}
use Rattle.geo_tables.proofs.{Refused.{rows_refused, rows_unstarted}, Staged.{rows_of, rows_count, put_fits, desk_held, batch_desk, batch_holds}}
use Rattle.geo_tables.proofs.Steps.{commits_after, not_started, not_stepped}
use Rattle.geo_tables.proofs.batches.stage.Goals as goal

-- what was put, of the geography itself
put_of : {D : Type 0} {g : Ghosts D} (load : Load) (rows : ℕ) {area : GeographyModel} {t u : Txn} {a b : Pages D g} → area ≡ geography_model_of load → HasPut (staged_rows (number_of load) area (done_of load) rows) t u a b → HasPut (rows_of load rows) t u a b
put_of load rows same put = rw same at put

pub returns-in_err-txn-clause-any_moment : goal.returns-in_err-txn-clause-any_moment
returns-in_err-txn-clause-any_moment g c = λ honest working sectors d whole holds. leaves_here (OpensDesk sectors d) (disk_in c.args.pages.now) (opens_now c.args.pages.now working honest sectors d whole (desk_held holds))

pub returns-in_err-put_batch-clause-any_moment : goal.returns-in_err-put_batch-clause-any_moment
returns-in_err-put_batch-clause-any_moment g c = λ honest working sectors d whole holds. quiet_leaves c.put_batch.ensures.puts.quiet honest working sectors d whole (desk_held holds)

pub returns-clause-any_moment : goal.returns-clause-any_moment
returns-clause-any_moment g c = λ honest working sectors d whole holds. desk_leaves c.in_ok-put_batch.ensures.puts.quiet c.commit_fitting.ensures honest working sectors d whole (desk_held holds)
    (λ then. batch_desk d (record { sound = c.is_sound.ensures.sound; number = c.is_sound.ensures.number; few = c.args.load.now.few; left = c.requires.left }) c.in_ok-txn.ensures (put_of c.args.load.now c.args.rows c.deref.ensures c.in_ok-put_batch.ensures.puts.put) then holds)

pub returns-clause-staged : goal.returns-clause-staged
returns-clause-staged g c = λ honest d holds. on_ok_weaker c.commit_fitting.result
    (λ held. batch_holds d (record { sound = c.is_sound.ensures.sound; number = c.is_sound.ensures.number; few = c.args.load.now.few; left = c.requires.left }) c.in_ok-txn.ensures (put_of c.args.load.now c.args.rows c.deref.ensures c.in_ok-put_batch.ensures.puts.put)
    (c.commit_fitting.ensures.commits.honest honest) holds (rw c.deref.ensures at c.in_ok-put_batch.ensures.staged) (λ m reads. (held m reads).0)) (c.commit_fitting.ensures.held honest)

pub commit_fitting-requires-clause-few : goal.commit_fitting-requires-clause-few
commit_fitting-requires-clause-few g c =
    put_fits c.in_ok-txn.ensures (put_of c.args.load.now c.args.rows c.deref.ensures c.in_ok-put_batch.ensures.puts.put) (omega (arith, rows_count c.args.load.now c.args.rows))

pub returns-in_err-txn-clause-step : goal.returns-in_err-txn-clause-step
returns-in_err-txn-clause-step g c = not_started c.in_err-txn.field-0.0 c.from_residual.result c.in_err-txn.ensures c.from_residual.ensures.1 (rows_unstarted c.args.load.now (c.args.rows + 1) _ c.args.pages.now)

pub returns-in_err-put_batch-clause-step : goal.returns-in_err-put_batch-clause-step
returns-in_err-put_batch-clause-step g c =
    not_stepped (tree_refusal c.in_err-put_batch.field-0.0) c.from_residual-in_err-put_batch.result c.in_ok-txn.ensures.working c.put_batch.ensures.puts.quiet c.from_residual-in_err-put_batch.ensures.1
    (rows_refused c.args.load.now (c.args.rows + 1) (rows_of c.args.load.now c.args.rows) c.in_ok-txn.txn c.args.pages.now c.put_batch.new.pages c.in_ok-txn.ensures (omega (arith, rows_count c.args.load.now c.args.rows))
    c.put_batch.ensures.puts.quiet c.in_err-put_batch.field-0.0 (rw c.deref.ensures at c.in_err-put_batch.ensures.puts.put))

pub returns-clause-step : goal.returns-clause-step
returns-clause-step g c = commits_after c.in_ok-put_batch.ensures.puts.put.passed c.in_ok-txn.ensures.working c.in_ok-txn.ensures (λ why. why) (λ why. why) c.commit_fitting.result c.commit_fitting.ensures
