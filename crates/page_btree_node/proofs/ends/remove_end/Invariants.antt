use Rattle.std.proofs.Common.{◌≡◌, ℕ, ◌+◌, ◌-◌, ◌<◌, ◌≤◌, get_or}
use Rattle.page_btree_node.proofs.ends.remove_end.Given as goal

abbrev pub invariant-loop-k : goal.invariant-loop-k
invariant-loop-k l = (l.i < l.k) × ((j : ℕ) → j ≤ l.i → get_or l.ends j 0 ≡ get_or l.fn.ends j 0) × ((j : ℕ) → l.k ≤ j → get_or l.ends j 0 ≡ get_or l.fn.ends j 0) × ((j : ℕ) → l.i < j → j < l.k → get_or l.ends j 0 ≡ get_or l.fn.ends (j + 1) 0 - l.size)
