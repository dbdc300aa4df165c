use Rattle.{std.proofs.Common.{◌≡◌, ◌≤◌, ℕ, get_or, ◌∙◌, arith}, page_btree_gets.{specs.{Getting.{CanGet, CanGetAt, IsLevel}, Seeking.{bound_in, leaf_of}}, proofs.Below.no_child}}
use Rattle.{page_btree_node.specs.claim.Node.Node, page_store.specs.claim.Transactions.{stored, disk_in, txn_pages, over}, sector_device.specs.claim.Disk.Image}
use Rattle.{page_btree_gets.proofs.{Following.{IsHeld, are_held, read_held}, Outcomes.fault_refused, Refusals.refused_below}, page_btree_node.proofs.Nearing.where_err}
use Rattle.page_store.proofs.Stops.{passed_more}
use Rattle.page_btree_gets.proofs.seeks.leaves_below.Goals as goal

-- ---- no way down
pub returns-in_err-ways_in-clause-reading : goal.returns-in_err-ways_in-clause-reading
returns-in_err-ways_in-clause-reading g c = no_child c.args.txn.now 1 c.args.key.now c.args.p c.in_err-ways_in.field-0.0 c.in_ok-own.ensures.reaches.reading.quiet
    c.from_residual-in_err-ways_in.ensures.1 c.in_err-ways_in.ensures.err (λ (none : 1 ≡ 0). omega arith) c.lent-bytes.ensures c.in_ok-own.ensures.lends c.in_err-ways_in.ensures.refused

-- ---- a page that isn't read
pub returns-in_err-read_leaves-clause-reading : goal.returns-in_err-read_leaves-clause-reading
returns-in_err-read_leaves-clause-reading g c =
    let t = c.args.txn.now in
    let can = λ (S : Image). CanGetAt (txn_pages t) (over t S) 1 c.args.key.now c.args.p in
    let all = λ (S : Image). (j : ℕ) → j ≤ c.ways_in.new.leaf.more → IsLevel (txn_pages t) (over t S) 0 (get_or c.ways_in.new.children j 0) in
    refused_below can all c.in_ok-own.ensures.reaches.reading.passed c.in_err-read_leaves.ensures.reading c.from_residual-in_err-read_leaves.ensures.1 (λ honest is.
    let before = c.in_err-read_leaves.ensures.reading.quiet.honest honest in
    let there = c.lent-bytes.ensures ∙ c.in_ok-own.ensures.lends before in
    rw (c.in_ok-own.ensures.reaches.reading.quiet.same before)
    (are_held _ _ _ _ is.0 c.lend_level.ensures.reaches.few _ c.ways_in.new.leaf c.ways_in.new.children (λ node at. c.in_ok-ways_in.ensures.ways node (rw there at))).levels)

-- ---- the leaves
held : (g : _) (c : goal.After-stand g) → (disk_in c.read_leaves.new.pages).is_honest → (is : CanGet (txn_pages c.args.txn.now) (over c.args.txn.now (stored c.args.pages.now)) 1 c.args.key.now (over c.args.txn.now (stored c.args.pages.now) c.args.p))
    → IsHeld is.tree is.high (bound_in c.args.leaf.now) c.args.key.now c.ways_in.new.leaf c.read_leaves.new.held
held g c honest is =
    let before = c.in_ok-read_leaves.ensures.reading.quiet.honest honest in
    let few = c.in_ok-ways_in.ensures.few in
    let four = c.read_leaves.array_long in
    (are_held _ _ _ _ is c.lend_level.ensures.reaches.few _ c.ways_in.new.leaf c.ways_in.new.children (λ node at. c.in_ok-ways_in.ensures.ways node (rw (c.lent-bytes.ensures ∙ c.in_ok-own.ensures.lends before) at))).leaves
    c.read_leaves.new.held (omega arith) (λ j le. rw (c.in_ok-own.ensures.reaches.reading.quiet.same before) at (c.in_ok-read_leaves.ensures.reads honest j le))

pub returns-clause-reading : goal.returns-clause-reading
returns-clause-reading g c = fault_refused (passed_more _ _ _ c.in_ok-own.ensures.reaches.reading.passed c.in_ok-read_leaves.ensures.reading.passed) c.stand.ensures.err (where_err c.stand.result _ _ (λ none honest is.
    none (record { level = 0; entries = leaf_of is.0.tree c.args.key.now }) (held g c honest is.0).node) c.stand.ensures.refused)

pub returns-clause-read : goal.returns-clause-read
returns-clause-read g c = λ honest is.
    let at = held g c honest is in
    let node : Node = record { level = 0; entries = leaf_of is.tree c.args.key.now } in
    read_held is.tree is.high (bound_in c.args.leaf.now) c.args.key.now c.read_leaves.new.held c.stand.result c.ways_in.new.leaf c.stand.new.leaf at c.stand.ensures.more c.stand.ensures.bound
    (c.stand.ensures.rows node at.node at.rises) (c.stand.ensures.left node at.node at.rises)
