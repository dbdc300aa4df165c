use Rattle.{std.proofs.Common.rules, pl94_segment.proofs.FilesLemmas.{files_from_join, join_from_files}}
use Rattle.pl94_segment.proofs.segment_law.files_law.Goals as goal

pub returns : goal.returns
returns c = search (rules, files_from_join, join_from_files)
