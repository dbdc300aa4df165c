use Rattle.{std.proofs.Common.◌≤◌, page_btree_node.specs.Walking.PassesTo}
use Rattle.page_btree_node.proofs.passing.each_in.Given as goal

abbrev pub invariant-loop-k : goal.invariant-loop-k
invariant-loop-k l = (l.at ≤ l.end) × (l.end ≤ 4096) × PassesTo l.page l.at l._k l.end
