use Rattle.desk_store_rows.proofs.Changes.{plan_revised}
use Rattle.desk_store_rows.proofs.laws.revisions_are_added.Goals as goal

pub returns : goal.returns
returns c = plan_revised
