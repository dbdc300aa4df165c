use Rattle.std.proofs.Common.{rules}
use Rattle.page_btree.proofs.gets.MapLaws.{few_rows}
use Rattle.btree_scan.proofs.whole.row_limit.Goals as goal

pub returns : goal.returns
returns c = λ P m holds. search (rules, few_rows)
