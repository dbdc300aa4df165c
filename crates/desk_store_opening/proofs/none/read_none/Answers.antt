use Rattle.desk_store_pages.proofs.Looking.{both, fails, fails_then, finds}
use Rattle.desk_store_opening.proofs.none.read_none.Goals as goal

pub returns-in_err-refuse_seal-clause-looks : goal.returns-in_err-refuse_seal-clause-looks
returns-in_err-refuse_seal-clause-looks g c = fails c.from_residual.result c.in_err-refuse_seal.ensures c.from_residual.ensures.1 (λ m none. none.the_geography)

pub returns-in_err-refuse_plans-clause-looks : goal.returns-in_err-refuse_plans-clause-looks
returns-in_err-refuse_plans-clause-looks g c = fails_then c.in_ok-refuse_seal.ensures c.from_residual-in_err-refuse_plans.result c.in_err-refuse_plans.ensures c.from_residual-in_err-refuse_plans.ensures.1 (λ m _ none. none.plans)

pub returns-clause-looks : goal.returns-clause-looks
returns-clause-looks g c = finds (both c.in_ok-refuse_seal.ensures c.in_ok-refuse_plans.ensures) (λ m none. record { the_geography = none.0; plans = none.1 })
