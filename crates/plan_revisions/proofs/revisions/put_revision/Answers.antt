use Rattle.{std.proofs.Common.{Ok, Err}, desk_store_pages.proofs.Writing.{puts_fail, puts_more, puts_none}}
use Rattle.plan_revisions.proofs.revisions.put_revision.Goals as goal

pub returns-in_err-put_changes : goal.returns-in_err-put_changes
returns-in_err-put_changes g c =
    puts_fail c.from_residual.result (puts_none _ (puts_none _ (puts_none _ c.in_err-put_changes.ensures))) c.from_residual.ensures.1

pub returns-in_err-put_holdings : goal.returns-in_err-put_holdings
returns-in_err-put_holdings g c = puts_fail c.from_residual-in_err-put_holdings.result
    (puts_none _ (puts_none _ (puts_more (Err c.in_err-put_holdings.field-0.0) c.in_ok-put_changes.ensures c.in_err-put_holdings.ensures))) c.from_residual-in_err-put_holdings.ensures.1

pub returns-in_err-put_names : goal.returns-in_err-put_names
returns-in_err-put_names g c = puts_fail c.from_residual-in_err-put_names.result
    (puts_none _ (puts_more (Err c.in_err-put_names.field-0.0) (puts_more (Ok c.in_ok-put_holdings.field-0) c.in_ok-put_changes.ensures c.in_ok-put_holdings.ensures)
    c.in_err-put_names.ensures)) c.from_residual-in_err-put_names.ensures.1

pub returns : goal.returns
returns g c = puts_more c.revise_plan.result
    (puts_more (Ok c.in_ok-put_names.field-0) (puts_more (Ok c.in_ok-put_holdings.field-0) c.in_ok-put_changes.ensures c.in_ok-put_holdings.ensures) c.in_ok-put_names.ensures) c.revise_plan.ensures.did
