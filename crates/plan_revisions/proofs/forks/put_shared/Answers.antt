use Rattle.desk_store_pages.proofs.Writing.{puts_fail, puts_more, puts_none}
use Rattle.plan_revisions.proofs.forks.put_shared.Goals as goal

pub returns-in_err-put_names : goal.returns-in_err-put_names
returns-in_err-put_names g c = puts_fail c.from_residual.result (puts_none _ c.in_err-put_names.ensures) c.from_residual.ensures.1

pub returns : goal.returns
returns g c = puts_more c.revise_plan.result c.in_ok-put_names.ensures c.revise_plan.ensures.did
