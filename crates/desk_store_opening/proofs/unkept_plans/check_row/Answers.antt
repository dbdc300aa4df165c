use Rattle.{desk_store_opening.proofs.Told.unnoted, desk_store_pages.proofs.Looking.{fails, gathered, looks}}
use Rattle.desk_store_opening.proofs.unkept_plans.check_row.Goals as goal

pub returns-in_err-note_number-clause-seen : goal.returns-in_err-note_number-clause-seen
returns-in_err-note_number-clause-seen g c =
    unnoted c.args.row.now c.args.counts.now c.args.txn.now c.args.pages.now c.in_err-note_number.field-0.0 c.in_err-note_number.ensures.err c.from_residual.result c.from_residual.ensures.1

pub returns-in_err-refuse_gone-clause-seen : goal.returns-in_err-refuse_gone-clause-seen
returns-in_err-refuse_gone-clause-seen g c = fails c.from_residual-in_err-refuse_gone.result (gathered _ c.in_err-refuse_gone.ensures) c.from_residual-in_err-refuse_gone.ensures.1 (λ m is. absurd is)

pub returns-clause-seen : goal.returns-clause-seen
returns-clause-seen g c = looks (gathered _ c.in_ok-refuse_gone.ensures) c.check_named.result c.check_named.ensures (λ m _ kept is. (kept, is)) (λ m kept is. is)
