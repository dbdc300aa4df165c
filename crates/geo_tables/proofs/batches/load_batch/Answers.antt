use Rattle.{std.proofs.Common.refl, geo_tables.proofs.Steps.{step_made, step_told}}
use Rattle.geo_tables.proofs.batches.load_batch.Goals as goal

pub returns-clause-staged : goal.returns-clause-staged
returns-clause-staged g c = λ honest d holds. c.in_ok-stage.ensures.staged honest d holds _ (record { number = refl; geography = refl; done = refl })

pub returns-in_err-stage-clause-step : goal.returns-in_err-stage-clause-step
returns-in_err-stage-clause-step g c = step_told c.in_err-stage.field-0.0 c.from_residual.result c.in_err-stage.ensures.step c.from_residual.ensures.1

pub returns-clause-step : goal.returns-clause-step
returns-clause-step g c = step_made c.in_ok-stage.ensures.step
