use Rattle.{std.{specs.Prelude.◌⊎◌, proofs.{Common.{◌≡◌, [], ◌∷◌, inl, arith}, lemmas.Result.on_ok_weaker}}, desk_model.specs.claim.Geography.GeographyModel}
use Rattle.{desk_store_pages.specs.{Errors.tree_refusal, claim.Desks.OpensDesk}, desk_store_rows.specs.Changes.desk_with, geo_tables.specs.Loading.{number_of, geography_model_of}}
use Rattle.{geo_tables.specs.{Loads.HasSealed, Rows.seal_row, declared.load.Load.Load}, page_store.specs.{claim.Transactions.disk_in, declared.{pages.Pages.Pages, txn.Txn.Txn}}}
use Rattle.{sector_device.specs.declared.SectorDevice.Ghosts, desk_store_pages.proofs.Kept.opens_now, geo_tables.proofs.Joins.{quiet_leaves, step_leaves}}
use Rattle.geo_tables.proofs.{Refused.{rows_refused, rows_unstarted}, Staged.{desk_held, seal_fits, seal_desk}, Steps.{commits_after, not_started, not_stepped}}
use Rattle.{page_store.proofs.Stops.leaves_here, sector_device.proofs.Moments.leaves_wider}
use Rattle.geo_tables.proofs.seals.put_seal.Goals as goal

-- what was put, of the geography itself
put_of : {D : Type 0} {g : Ghosts D} (load : Load) {area : GeographyModel} {t u : Txn} {a b : Pages D g} → area ≡ geography_model_of load → HasSealed (number_of load) area t u a b → HasSealed (number_of load) (geography_model_of load) t u a b
put_of load same put = rw same at put

pub returns-in_err-txn-clause-any_moment : goal.returns-in_err-txn-clause-any_moment
returns-in_err-txn-clause-any_moment g c = λ honest working sectors d whole holds. leaves_here (λ x. OpensDesk sectors d x ⊎ OpensDesk sectors (desk_with (geography_model_of c.args.load.now) d.plans) x) (disk_in c.args.pages.now) (λ x left. inl (opens_now c.args.pages.now working honest sectors d whole (desk_held holds) x left))

pub returns-in_err-seal_rows-clause-any_moment : goal.returns-in_err-seal_rows-clause-any_moment
returns-in_err-seal_rows-clause-any_moment g c = λ honest working sectors d whole holds.
    leaves_wider (OpensDesk sectors d) (λ x. OpensDesk sectors d x ⊎ OpensDesk sectors (desk_with (geography_model_of c.args.load.now) d.plans) x) (disk_in c.args.pages.now) (disk_in c.seal_rows.new.pages) (λ x opens. inl opens)
    (quiet_leaves c.seal_rows.ensures.quiet honest working sectors d whole (desk_held holds))

pub commit_fitting-requires-clause-few : goal.commit_fitting-requires-clause-few
commit_fitting-requires-clause-few g c = seal_fits c.in_ok-txn.ensures (put_of c.args.load.now c.deref.ensures c.in_ok-seal_rows.ensures.put)

pub returns-clause-any_moment : goal.returns-clause-any_moment
returns-clause-any_moment g c = λ honest working sectors d whole holds. step_leaves c.in_ok-seal_rows.ensures.quiet c.commit_fitting.ensures honest working sectors d (desk_with (geography_model_of c.args.load.now) d.plans) whole (desk_held holds)
    (λ then. seal_desk c.in_ok-txn.ensures (put_of c.args.load.now c.deref.ensures c.in_ok-seal_rows.ensures.put) d (record { sound = c.is_sound.ensures.sound; number = c.is_sound.ensures.number; few = c.args.load.now.few; left = (let within = c.args.load.now.within in omega arith) }) c.requires then holds)

pub returns-clause-sealed : goal.returns-clause-sealed
returns-clause-sealed g c = λ honest d holds.
    let desk = seal_desk c.in_ok-txn.ensures (put_of c.args.load.now c.deref.ensures c.in_ok-seal_rows.ensures.put) d (record { sound = c.is_sound.ensures.sound; number = c.is_sound.ensures.number; few = c.args.load.now.few; left = (let within = c.args.load.now.within in omega arith) }) c.requires (c.commit_fitting.ensures.commits.honest honest) holds in
    on_ok_weaker c.commit_fitting.result (λ held. record { m = desk.m; holds = (held desk.m desk.holds).0; is = desk.is }) (c.commit_fitting.ensures.held honest)

pub returns-in_err-txn-clause-step : goal.returns-in_err-txn-clause-step
returns-in_err-txn-clause-step g c = not_started c.in_err-txn.field-0.0 c.from_residual.result c.in_err-txn.ensures c.from_residual.ensures.1 (rows_unstarted c.args.load.now 2 _ c.args.pages.now)

pub returns-in_err-seal_rows-clause-step : goal.returns-in_err-seal_rows-clause-step
returns-in_err-seal_rows-clause-step g c =
    not_stepped (tree_refusal c.in_err-seal_rows.field-0.0) c.from_residual-in_err-seal_rows.result c.in_ok-txn.ensures.working c.seal_rows.ensures.quiet c.from_residual-in_err-seal_rows.ensures.1
    (rows_refused c.args.load.now 2 (seal_row (number_of c.args.load.now) (geography_model_of c.args.load.now) ∷ []) c.in_ok-txn.txn c.args.pages.now c.seal_rows.new.pages c.in_ok-txn.ensures (omega arith)
    c.seal_rows.ensures.quiet c.in_err-seal_rows.field-0.0 (rw c.deref.ensures at c.in_err-seal_rows.ensures.put))

pub returns-clause-step : goal.returns-clause-step
returns-clause-step g c = commits_after c.in_ok-seal_rows.ensures.put.passed c.in_ok-txn.ensures.working c.in_ok-txn.ensures (λ why. why) (λ why. why) c.commit_fitting.result c.commit_fitting.ensures
