use Rattle.{std.{specs.Option.option_copied, proofs.Common.{◌<◌, ℕ, suc}}, page_btree_checks.specs.Order.lower_of, page_btree_gets.specs.{claim.Keys.Parts, node.Entries.key_at}}
use Rattle.page_btree_checks.proofs.order.are_parts.Given as goal

abbrev pub invariant-loop-k : goal.invariant-loop-k
invariant-loop-k l = (j : ℕ) → suc j < l.k → Parts (lower_of l.low l.node.entries j) (option_copied l.high) (key_at l.node.entries (suc j))
