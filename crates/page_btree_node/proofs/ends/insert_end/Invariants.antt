use Rattle.std.proofs.Common.{◌≡◌, ℕ, ◌+◌, ◌≤◌, get_or}
use Rattle.page_btree_node.proofs.ends.insert_end.Given as goal

abbrev pub invariant-loop-k : goal.invariant-loop-k
invariant-loop-k l = (l.i ≤ l.k) × (l.k ≤ l.count + 1) × ((j : ℕ) → j ≤ l.k → get_or l.ends j 0 ≡ get_or l.fn.ends j 0) × ((j : ℕ) → l.k ≤ j → j ≤ l.count → get_or l.ends (j + 1) 0 ≡ get_or l.fn.ends j 0 + l.size)

abbrev pub decreases-loop-k : goal.decreases-loop-k
decreases-loop-k l = l.k
