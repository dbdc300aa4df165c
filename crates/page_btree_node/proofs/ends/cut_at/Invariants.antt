use Rattle.std.proofs.Common.{◌+◌, ◌-◌, ◌*◌, ◌<◌, get_or}
use Rattle.page_btree_node.proofs.ends.cut_at.Given as goal

abbrev pub invariant-loop-cut : goal.invariant-loop-cut
invariant-loop-cut l = (0 < l.cut) × (l.cut < l.count) × (2 * get_or l.ends (l.cut - 1) 0 < get_or l.ends l.count 0 + 4)

abbrev pub decreases-loop-cut : goal.decreases-loop-cut
decreases-loop-cut l = l.count - l.cut
