use Rattle.{std.proofs.Common.{◌+◌, refl, rules}, desk_model.specs.claim.Desk.Desk, desk_store.specs.{Loads.Stages, claim.Clerks.{desk_of, pages_of}}}
use Rattle.desk_store_opening.specs.geo_tables.{Loading.{HoldsLoad, number_of, geography_model_of, done_of}, Refusals.BatchErr, Rows.staged_rows}
use Rattle.desk_store.proofs.Loaded.{batch_stopped, rows_told, rows_refused, refused_failed, refused_quiet, load_desk, step_ended, step_faulted, step_worked, step_stages}
use Rattle.{desk_store.proofs.Moved.{quieted, unmoved}, page_store.proofs.Stops.quiet_none}
use Rattle.desk_store.proofs.clerk.Clerk.load_batch.Goals as goal

pub returns-in-Err : goal.returns-in-Err
returns-in-Err g c =
    search (
      rules,
      unmoved (Stages c.args.self.now c.args.load.now) (desk_of c.args.self.now) c.args.self.now (λ stages. stages.keeps),
      quiet_none (pages_of c.args.self.now),
      step_ended (BatchErr c.args.load.now c.args.rows (pages_of c.args.self.now) (pages_of c.args.self.now)) c.args.load.now c.args.self.now (pages_of c.args.self.now) c.in-Err.e c.in-Err.ensures.err,
    )

pub returns-then-has_failed : goal.returns-then-has_failed
returns-then-has_failed g c =
    let x = c.args.self.now in
    let load = c.args.load.now in
    let b = c.load_batch.new.pages in
    let did = c.in-Err-load_batch.ensures in
    let working = c.in_default.ensures.ok.0 in
    let told = rows_told load (c.args.rows + 1) (staged_rows (number_of load) (geography_model_of load) (done_of load) c.args.rows) (pages_of x) b c.in-Err-load_batch.e did.step.commits.err in
    let failed = refused_failed x b c.in-Err-load_batch.e working told (c.if-has_failed.ensures.failed refl) in
    let moves = step_faulted x working (λ d. HoldsLoad (pages_of x) d load) (λ (stages : Stages x load). stages.holds) did.step.commits did.any_moment failed.rose in
    batch_stopped (moves _ _) refl refl (search rules) did.load (refl, λ off. failed.halted)

pub returns-in-Ok : goal.returns-in-Ok
returns-in-Ok g c =
    let x = c.args.self.now in
    let did = c.in-Ok.ensures in
    let commits = did.step.commits in
    let working = c.in_default.ensures.ok.0 in
    let before = λ (d : Desk). HoldsLoad (pages_of x) d c.args.load.now in
    let held = λ (stages : Stages x c.args.load.now). stages.holds in
    let moves = step_worked x working before held commits did.any_moment (λ honest d holds. load_desk (did.staged honest d holds)) in
    record {
      moves = moves _ _;
      loads = search rules;
      staged = step_stages x working before held c.load_batch.new.load commits.honest did.staged _ _ (moves _ _);
      last = search rules;
      further = did.load.further;
      left = did.load.rest;
      same = search rules;
      loading = search rules;
      err = search rules;
    }

pub returns-else-has_failed : goal.returns-else-has_failed
returns-else-has_failed g c =
    let x = c.args.self.now in
    let load = c.args.load.now in
    let b = c.load_batch.new.pages in
    let e = c.in-Err-load_batch.e in
    let working = c.in_default.ensures.ok.0 in
    let off = (c.if-has_failed.ensures.passed refl).0 in
    let all = staged_rows (number_of load) (geography_model_of load) (done_of load) c.args.rows in
    let why = c.in-Err-load_batch.ensures.step.commits.err in
    let quiet = refused_quiet (pages_of x) b e off (rows_told load (c.args.rows + 1) all (pages_of x) b e why) in
    batch_stopped (quieted (Stages x load) (desk_of x) x _ (λ stages. stages.keeps) working working refl quiet) refl refl (λ works. quiet) c.in-Err-load_batch.ensures.load (rows_refused load (c.args.rows + 1) all x b e working off why)
