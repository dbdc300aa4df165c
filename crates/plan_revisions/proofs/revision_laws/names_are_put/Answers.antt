use Rattle.{std.proofs.Common.{arith, rules}, desk_store_rows.proofs.NameRows.{names_put, names_kept, revision_kept, names_keep_tag}}
use Rattle.plan_revisions.proofs.revision_laws.names_are_put.Goals as goal

pub returns : goal.returns
returns c m plan revision numbers fits small few = search (rules, arith, names_put, names_kept, revision_kept, names_keep_tag)
