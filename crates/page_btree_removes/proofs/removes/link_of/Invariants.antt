use Rattle.{std.{specs.Ordering.is_gt, proofs.Common.{◌≡◌, ℕ, ◌<◌, ◌≤◌, false, length}}, page_btree_gets.specs.node.{Entries.key_at, claim.Places.key_cmp}}
use Rattle.page_btree_removes.proofs.removes.link_of.Given as goal

abbrev pub invariant-loop-i : goal.invariant-loop-i
invariant-loop-i l = (l.i ≤ length l.node.entries) × ((j : ℕ) → 0 < j → j < l.i → is_gt (key_cmp (key_at l.node.entries j) l.key) ≡ false)
