use Rattle.{std.proofs.Common.rules, desk_store_rows.proofs.Staging.{block_staged, pair_staged}}
use Rattle.desk_store_rows.proofs.laws.loads_are_staged.Goals as goal

pub returns : goal.returns
returns c m load g load_fits = search (rules, block_staged, pair_staged)
