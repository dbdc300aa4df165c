use Rattle.{std.proofs.{Common.{ℕ, List, rules}, lemmas.Bool.{and_parts, leb-true}}, desk_model.specs.claim.Name.IsPlanName, desk_store_rows.specs.claim.Keys.{Fits, named}}
use Rattle.desk_store_rows.proofs.TidyPlans.{created_tidy, retired_tidy}
use Rattle.desk_store_rows.proofs.upkeep.plans_come_and_go_tidily.Goals as goal

-- a name has 64 bytes at most
name_fits : (name : List ℕ) → IsPlanName name → Fits (named name)
name_fits name is = search (rules, and_parts, leb-true)

pub returns : goal.returns
returns c m tidy name = search (rules, created_tidy, name_fits, retired_tidy)
