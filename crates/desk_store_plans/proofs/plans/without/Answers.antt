use Rattle.{std.proofs.Common.refl, desk_store_plans.proofs.Splits.made_alone}
use Rattle.desk_store_plans.proofs.plans.without.Goals as goal

pub returns-in-None : goal.returns-in-None
returns-in-None c = rw c.in-None.is (made_alone refl)
