use Rattle.{std.proofs.Common.rules, desk_store_rows.proofs.{PutAll.told_all, TidyLoads.{begun_tidy, begun_unstaged, staged_tidy, sealed_tidy}}}
use Rattle.desk_store_rows.proofs.upkeep.loads_are_loaded_tidily.Goals as goal

pub returns : goal.returns
returns c m tidy = search (rules, begun_tidy, begun_unstaged, staged_tidy, told_all, sealed_tidy)
