use Rattle.{std.{specs.Prelude.IfOk, proofs.Common.{get_or, ap, ℕ, ◌-◌, refl, sym, subst, ◌∙◌, arith, rules}}, page_btree_gets.{specs.Getting.CanGetAt, proofs.Descent.some_child}}
use Rattle.{page_btree_gets.specs.Leading.{LeadsTo, LeadsAll, CanLead, end_of}, page_store.specs.claim.Transactions.{stored, txn_pages, over}, sector_device.specs.claim.Disk.Image}
use Rattle.page_btree_gets.proofs.{Below.{down, leads_up, reach_up}, Leads.leads_none, Outcomes.{reads_err, refused_by, reads_after}, Refusals.reads_more}
use Rattle.page_btree_gets.proofs.ways.find_leaf.Goals as goal

pub returns-then-level-gt5-clause-reading : goal.returns-then-level-gt5-clause-reading
returns-then-level-gt5-clause-reading g c = search (rules, reads_err)

-- ---- the root is a leaf
pub returns-then-level-eq0-clause-leads : goal.returns-then-level-eq0-clause-leads
returns-then-level-eq0-clause-leads g c = λ honest d is. search (rules, leads_none)

-- ---- no way down
pub returns-in_err-child-clause-reading : goal.returns-in_err-child-clause-reading
returns-in_err-child-clause-reading g c = refused_by _ c.from_residual-in_err-child.ensures.1 c.in_ok-own.ensures.reading.quiet (λ honest is.
    let there = c.lent-bytes.ensures ∙ c.in_ok-own.ensures.lends honest in
    let told = c.level_of-level.ensures.level is.2.1.node (rw there is.2.1.node_is) ∙ is.2.1.level_is in
    some_child _ _ is.0 _ _ is.2.0 (let not = c.if-level-eq0.false in omega arith) (rw there at c.in_err-child.ensures.err))

pub returns-then-child-count-clause-reading : goal.returns-then-child-count-clause-reading
returns-then-child-count-clause-reading g c = reads_err c.in_ok-own.ensures.reading.quiet (λ honest is.
    let there = c.lent-bytes.ensures ∙ c.in_ok-own.ensures.lends honest in
    let told = c.level_of-level.ensures.level is.2.1.node (rw there is.2.1.node_is) ∙ is.2.1.level_is in
    let go = down _ _ is.0 _ _ c.in_ok-child.child (λ none. c.if-level-eq0.false (told ∙ none)) (omega arith) there c.in_ok-child.ensures.child is.2.0 in
    omega arith)

-- ---- below
pub returns-clause-reading : goal.returns-clause-reading
returns-clause-reading g c =
    let n = txn_pages c.args.txn.now in
    let P = over c.args.txn.now (stored c.args.pages.now) in
    let child = c.in_ok-child.child in
    let can = λ (S : Image). CanLead n (over c.args.txn.now S) c.args.key.now c.args.root in
    let below = λ (S : Image). CanGetAt n (over c.args.txn.now S) (c.level_of-level.result - 1) c.args.key.now child in
    let first = c.in_ok-own.ensures.reading.passed in
    reads_after first c.leaf_below.ensures.reading (reads_more can below _ _ _ first c.leaf_below.ensures.reading.quiet (λ honest is.
    let before = c.leaf_below.ensures.reading.quiet.honest honest in
    let there = c.lent-bytes.ensures ∙ c.in_ok-own.ensures.lends before in
    let told = c.level_of-level.ensures.level is.2.1.node (rw there is.2.1.node_is) ∙ is.2.1.level_is in
    let go = down n P is.0 c.args.key.now c.args.root child (λ none. c.if-level-eq0.false (told ∙ none)) (omega arith) there c.in_ok-child.ensures.child is.2.0 in
    subst below (sym (first.quiet.same before)) (subst (λ d. CanGetAt n P (d - 1) c.args.key.now child) (sym told) ((go.next (P child) refl, go.level)))))

pub returns-clause-leads : goal.returns-clause-leads
returns-clause-leads g c = λ honest d is.
    let before = c.leaf_below.ensures.reading.quiet.honest honest in
    let told = c.level_of-level.ensures.level is.1.node (rw (c.lent-bytes.ensures ∙ c.in_ok-own.ensures.lends before) is.1.node_is) ∙ is.1.level_is in
    subst (λ d. IfOk c.leaf_below.result (λ leaf. LeadsTo (over c.args.txn.now (stored c.args.pages.now)) d c.args.root c.args.key.now leaf)) told
    (leads_up c.leaf_below.result c.args.txn.now c.level_of-level.result c.args.key.now c.args.root c.in_ok-child.child c.if-level-eq0.false c.in_ok-own.ensures.reading.quiet
    c.lent-bytes.ensures c.in_ok-own.ensures.lends c.in_ok-child.ensures.child before (c.leaf_below.ensures.leads honest))

-- ---- how far
pub returns-then-level-eq0-clause-reach : goal.returns-then-level-eq0-clause-reach
returns-then-level-eq0-clause-reach g c = λ honest other between. search (rules, leads_none)

pub returns-clause-reach : goal.returns-clause-reach
returns-clause-reach g c = λ honest.
    let before = c.leaf_below.ensures.reading.quiet.honest honest in
    let level_is = c.level_of-level.ensures.byte ∙ ap (λ b. get_or b 0 0) (c.lent-bytes.ensures ∙ c.in_ok-own.ensures.lends before) in
    let high = end_of c.leaf_below.new.reach in
    subst (λ (d : ℕ). IfOk c.leaf_below.result (λ leaf. LeadsAll (over c.args.txn.now (stored c.args.pages.now)) d c.args.root c.args.key.now high leaf)) level_is
    (reach_up c.leaf_below.result c.args.txn.now c.level_of-level.result c.args.key.now c.args.root c.in_ok-child.child c.if-level-eq0.false c.in_ok-own.ensures.reading.quiet
    c.lent-bytes.ensures c.in_ok-own.ensures.lends c.in_ok-child.ensures.child before high
    (λ node at rises other under. c.in_ok-child.ensures.within node at rises other (c.leaf_below.ensures.nearer other under)) (c.leaf_below.ensures.reach honest))
