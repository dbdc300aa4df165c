use Rattle.page_btree_node.proofs.Scanning.{IsScanned}
use Rattle.page_btree_node.proofs.scan.scan.Given as goal

abbrev pub invariant-loop-k : goal.invariant-loop-k
invariant-loop-k l = IsScanned l.level l.count l.page l.ends l.k l.at
