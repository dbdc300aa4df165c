use Rattle.pl94_segment.proofs.FilesLemmas.{segment_from_good, segment_good}
use Rattle.pl94_segment.proofs.segment_law.segment_law.Goals as goal

pub returns : goal.returns
returns c = λ part ls. (segment_from_good part ls, segment_good part ls)
