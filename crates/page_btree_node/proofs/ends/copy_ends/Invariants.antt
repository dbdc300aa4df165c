use Rattle.std.proofs.Common.{◌≡◌, ℕ, ◌+◌, ◌-◌, ◌<◌, ◌≤◌, get_or}
use Rattle.page_btree_node.proofs.ends.copy_ends.Given as goal

abbrev pub invariant-loop-k : goal.invariant-loop-k
invariant-loop-k l = (l.i ≤ l.k) × ((j : ℕ) → l.i ≤ j → j < l.k → get_or l.to (j - l.i) 0 ≡ get_or l.from j 0 - l.first + 4)
