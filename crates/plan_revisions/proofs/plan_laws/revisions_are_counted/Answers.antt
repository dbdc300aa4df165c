use Rattle.plan_revisions.proofs.Made.{revision_counted}
use Rattle.plan_revisions.proofs.plan_laws.revisions_are_counted.Goals as goal

pub returns : goal.returns
returns c = revision_counted
