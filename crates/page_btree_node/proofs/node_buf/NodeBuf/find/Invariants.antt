use Rattle.{std.{specs.declared.cmp.Ordering.TheVariants.{Less, Greater}, proofs.Common.{◌≡◌, ℕ, ◌-◌, ◌<◌, ◌≤◌, length}}, page_btree_node.specs.Entries.key_at}
use Rattle.page_btree_node.specs.claim.Places.{key_cmp, Rises}
use Rattle.page_btree_node.proofs.node_buf.NodeBuf.find.Given as goal

abbrev pub invariant-loop-low : goal.invariant-loop-low
invariant-loop-low l = (l.low ≤ l.high) × (l.high ≤ length l.self.entries)
    × (Rises l.self.entries → (j : ℕ) → j < l.low → key_cmp (key_at l.self.entries j) l.key ≡ Less)
    × (Rises l.self.entries → (j : ℕ) → l.high ≤ j → j < length l.self.entries → key_cmp (key_at l.self.entries j) l.key ≡ Greater)

abbrev pub decreases-loop-low : goal.decreases-loop-low
decreases-loop-low l = l.high - l.low
