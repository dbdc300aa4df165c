use Rattle.{std.proofs.Common.{◌<◌, ◌+◌, ◌^◌, arith, length}, desk_model.specs.claim.Ranges.cut, desk_store_rows.specs.RevisionSteps.AreItsChunks}
use Rattle.desk_store_rows.proofs.RevisionDesk.{its_chunks, revision_made, rows_add, rows_make}
use Rattle.desk_store_rows.proofs.upkeep.revisions_make_desks.Goals as goal

pub returns : goal.returns
returns c m tidy g plans name number p districts lists numbers is there has long few room drawn =
    let few_more : length p.revisions + 1 < 2 ^ 32 = omega arith in
    let its : AreItsChunks m tidy.next (length lists) number numbers = its_chunks m tidy.next number lists numbers (cut g districts) drawn in
    search (revision_made, rows_add, rows_make)
