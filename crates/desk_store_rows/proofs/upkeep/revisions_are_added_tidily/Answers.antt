use Rattle.desk_store_rows.proofs.{RevisionDesk.revision_put, TidyParts.name_fits, TidyRevisions.revised_tidy}
use Rattle.desk_store_rows.proofs.upkeep.revisions_are_added_tidily.Goals as goal

pub returns : goal.returns
returns c m tidy name p number_fits few_revisions has = search (revised_tidy, revision_put, name_fits)
