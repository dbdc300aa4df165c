use Rattle.{std.proofs.Common.rules, desk_store_rows.proofs.Changes.{plan_created, plan_retired}}
use Rattle.desk_store_rows.proofs.laws.plans_come_and_go.Goals as goal

pub returns : goal.returns
returns c m g plans name is = search (rules, plan_created, plan_retired)
