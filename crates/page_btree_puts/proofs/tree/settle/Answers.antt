use Rattle.{std.proofs.Common.rules, page_store.specs.claim.Transactions.{stored, txn_pages}}
use Rattle.page_btree_puts.proofs.tree.settle.Goals as goal

pub returns-clause-written : goal.returns-clause-written
returns-clause-written g c = λ honest are off.
    let S = stored c.args.pages.now in
    let t0 = c.args.txn.now in
    let page = c.args.page in
    let bytes = c.write_node.new.bytes in
    search (rules, c.in_ok-write_node.ensures.free S (txn_pages t0) are off)
