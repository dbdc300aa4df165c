use Rattle.desk_store_pages.proofs.Looking.{both, fails, fails_then, finds}
use Rattle.inspect_command.proofs.rows.count_rows.Goals as goal

pub returns-in_err-chunks-clause-looks : goal.returns-in_err-chunks-clause-looks
returns-in_err-chunks-clause-looks g c = fails c.from_residual.result c.in_err-chunks.ensures c.from_residual.ensures.1 (λ m any. any)

pub returns-in_err-deleted_plans-clause-looks : goal.returns-in_err-deleted_plans-clause-looks
returns-in_err-deleted_plans-clause-looks g c =
    fails_then c.in_ok-chunks.ensures c.from_residual-in_err-deleted_plans.result c.in_err-deleted_plans.ensures c.from_residual-in_err-deleted_plans.ensures.1 (λ m is any. any)

pub returns-in_err-stopped_loads-clause-looks : goal.returns-in_err-stopped_loads-clause-looks
returns-in_err-stopped_loads-clause-looks g c =
    fails_then (both c.in_ok-chunks.ensures c.in_ok-deleted_plans.ensures) c.from_residual-in_err-stopped_loads.result c.in_err-stopped_loads.ensures c.from_residual-in_err-stopped_loads.ensures.1 (λ m is any. any)

pub returns-clause-looks : goal.returns-clause-looks
returns-clause-looks g c = finds (both (both c.in_ok-chunks.ensures c.in_ok-deleted_plans.ensures) c.in_ok-stopped_loads.ensures) (λ m is. record { chunks = is.0.0; deleted = is.0.1; stopped = is.1 })
