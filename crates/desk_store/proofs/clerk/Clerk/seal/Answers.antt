use Rattle.{std.proofs.Common.{[], ◌∷◌, refl, ◌∙◌, rules}, desk_store.{specs.{Keeping.sealed_desk, Loads.Stages, claim.Clerks.pages_of}, proofs.Moved.{quieted, unmoved}}}
use Rattle.{desk_store_opening.specs.geo_tables.{Loading.{number_of, geography_model_of}, Refusals.SealErr, Rows.seal_row}, page_store.proofs.Stops.quiet_none}
use Rattle.desk_store.proofs.Loaded.{rows_told, rows_refused, refused_failed, refused_quiet, seal_faulted, seal_stopped, seal_worked, step_ended}
use Rattle.desk_store.proofs.clerk.Clerk.seal.Goals as goal

pub returns-in-Err : goal.returns-in-Err
returns-in-Err g c =
    search (
      rules,
      unmoved (Stages c.args.self.now c.args.load) (sealed_desk (geography_model_of c.args.load)) c.args.self.now (λ stages. stages.keeps),
      quiet_none (pages_of c.args.self.now),
      step_ended (SealErr c.args.load (pages_of c.args.self.now) (pages_of c.args.self.now)) c.args.load c.args.self.now (pages_of c.args.self.now) c.in-Err.e c.in-Err.ensures.err,
    )

pub returns-in_default-sealed : goal.returns-in_default-sealed
returns-in_default-sealed g c =
    search (rules, unmoved (Stages c.args.self.now c.args.load) (sealed_desk (geography_model_of c.args.load)) c.args.self.now (λ stages. stages.keeps), quiet_none (pages_of c.args.self.now))

pub returns-then-has_failed : goal.returns-then-has_failed
returns-then-has_failed g c =
    let x = c.args.self.now in
    let load = c.args.load in
    let b = c.seal.new.pages in
    let e = c.in-Err-seal.e in
    let may = c.in_default.ensures.ok in
    let did = c.in-Err-seal.ensures in
    let told = rows_told load 2 (seal_row (number_of load) (geography_model_of load) ∷ []) (pages_of x) b e did.step.commits.err in
    let failed = refused_failed x b e may.0 told (c.if-has_failed.ensures.failed refl) in
    seal_stopped (seal_faulted x load may.0 may.1 did.step.commits did.any_moment failed _) refl refl (search rules) did.back (refl, λ off. failed.halted)

pub returns-in-Ok-seal : goal.returns-in-Ok-seal
returns-in-Ok-seal g c = record {
  moves = let may = c.in_default.ensures.ok in
      let did = c.in-Ok-seal.ensures in
      seal_worked c.args.self.now c.args.load may.0 may.1 _ may.0 (c.in-Ok.ensures ∙ (λ i. sealed_desk (c.geography.ensures i).value)) did.step.commits did.any_moment did.sealed;
  sealed = search rules;
  unsealed = search rules;
  back = search rules;
  loading = search rules;
  working = search rules;
  quiet = search rules;
  err = search rules;
}

pub returns-else-has_failed : goal.returns-else-has_failed
returns-else-has_failed g c =
    let x = c.args.self.now in
    let load = c.args.load in
    let b = c.seal.new.pages in
    let e = c.in-Err-seal.e in
    let working = c.in_default.ensures.ok.0 in
    let off = (c.if-has_failed.ensures.passed refl).0 in
    let row = seal_row (number_of load) (geography_model_of load) ∷ [] in
    let why = c.in-Err-seal.ensures.step.commits.err in
    let quiet = refused_quiet (pages_of x) b e off (rows_told load 2 row (pages_of x) b e why) in
    seal_stopped (quieted (Stages x load) (sealed_desk (geography_model_of load)) x _ (λ stages. stages.keeps) working working refl quiet) refl refl (λ works. quiet) c.in-Err-seal.ensures.back (rows_refused load 2 row x b e working off why)
