use Rattle.btree_scan.proofs.{Prefixes.{find_under, under_rises}, Taken.{taken_none, taken_more, taken_all, taken_few}}
use Rattle.btree_scan.proofs.whole.laws.Goals as goal

pub returns : goal.returns
returns c = record { none = taken_none; more = taken_more; all = taken_all; few = taken_few; rises = under_rises; found = find_under }
