use Rattle.{std.proofs.Common.{◌+◌, ◌*◌, arith}, page_btree_node.proofs.Passed.passes_both}
use Rattle.page_btree_node.proofs.passing.eight_in.Goals as goal

pub returns-then-four_in : goal.returns-then-four_in
returns-then-four_in c = λ second.
    let at = c.args.at in
    let size = c.args.last.now.size in
    let next = c.four_in-then-four_in.ensures second in
    search (arith, passes_both c.args.page.now at (at + 4 * size) (at + 4 * size + 4 * size) 4 4 (c.four_in.ensures c.if-four_in.true).passed next.passed)
