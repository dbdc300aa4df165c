use Rattle.pl94_geo.proofs.WholeLemmas.{whole_from_good, good_from_whole}
use Rattle.pl94_geo.proofs.geo_law.lines_law.Goals as goal

pub returns : goal.returns
returns c = λ ls. (whole_from_good ls, good_from_whole ls)
