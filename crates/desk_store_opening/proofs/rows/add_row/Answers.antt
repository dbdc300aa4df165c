use Rattle.{std.proofs.Common.rules, desk_store_opening.proofs.{NewPlans.is_kept_plan, PlanNumbers.unnoted}, desk_store_pages.proofs.Looking.{fails, gathered, looks}}
use Rattle.desk_store_opening.proofs.rows.add_row.Goals as goal

pub returns-in_err-note_number-clause-reads : goal.returns-in_err-note_number-clause-reads
returns-in_err-note_number-clause-reads g c = search (rules, unnoted)

pub returns-in_err-refuse_gone-clause-reads : goal.returns-in_err-refuse_gone-clause-reads
returns-in_err-refuse_gone-clause-reads g c = fails c.from_residual-in_err-refuse_gone.result (gathered _ c.in_err-refuse_gone.ensures) c.from_residual-in_err-refuse_gone.ensures.1
    (λ m is. is_kept_plan c.args.geography.now c.args.plans.now c.args.row.now m is.0 is.1.new)

pub returns-clause-reads : goal.returns-clause-reads
returns-clause-reads g c = looks (gathered _ c.in_ok-refuse_gone.ensures) c.add_named.result c.add_named.ensures.reads
    (λ m all kept is. record { there = (kept, is.there); read = λ plan fresh. is.read plan fresh.new }) (λ m kept is. (is.0, is.1.new))
