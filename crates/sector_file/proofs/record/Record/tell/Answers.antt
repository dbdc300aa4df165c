use Rattle.{std.proofs.Common.ap, sector_file.specs.Told.replay}
use Rattle.sector_file.proofs.record.Record.tell.Goals as goal

pub returns-clause-told : goal.returns-clause-told
returns-clause-told g c = ap (replay g.S.Contents.sector) c.note.ensures
