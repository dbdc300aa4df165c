use Rattle.std.{specs.FinMap.len, proofs.Common.{ap, ◌∙◌}}
use Rattle.desk_store_plans.proofs.plans.Plans.len.Goals as goal

pub returns : goal.returns
returns c = c.self.invariant.count ∙ ap len c.self.view_is
