use Rattle.{std.proofs.Common.rules, desk_store_rows.proofs.Staging.{staged_unseen, load_sealed}}
use Rattle.desk_store_rows.proofs.laws.loads_are_unseen.Goals as goal

pub returns : goal.returns
returns c m plans is = search (rules, staged_unseen, load_sealed)
