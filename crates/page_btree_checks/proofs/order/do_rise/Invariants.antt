use Rattle.{std.{specs.Ordering.is_lt, proofs.Common.{◌≡◌, ◌<◌, ℕ, suc, true}}, page_btree_gets.specs.node.{Entries.key_at, claim.Places.key_cmp}}
use Rattle.page_btree_checks.proofs.order.do_rise.Given as goal

abbrev pub invariant-loop-k : goal.invariant-loop-k
invariant-loop-k l = (j : ℕ) → suc j < l.k → is_lt (key_cmp (key_at l.node.entries j) (key_at l.node.entries (suc j))) ≡ true
