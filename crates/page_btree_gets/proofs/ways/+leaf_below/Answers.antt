use Rattle.{std.proofs.Common.{refl, ◌∙◌, arith}, page_btree_gets.{specs.{Leading.end_of, declared.error.TreeError.TheVariants.NotAStore}, proofs.Leads.leads_none}}
use Rattle.{page_store.specs.claim.Transactions.{stored, over}, page_btree_gets.proofs.{Below.{down, leads_up, reach_up, not_lent, no_child, not_below}, Outcomes.reads_err}}
use Rattle.page_btree_gets.proofs.ways.+leaf_below.Goals as goal

pub returns-then-level-eq0-clause-leads : goal.returns-then-level-eq0-clause-leads
returns-then-level-eq0-clause-leads g t c = λ honest. leads_none (over c.args.txn.now (stored c.args.pages.now)) c.args.level c.args.p c.args.key.now c.if-level-eq0.true

-- ---- no way down
pub returns-in_err-own-clause-reading : goal.returns-in_err-own-clause-reading
returns-in_err-own-clause-reading g t c = not_lent c.args.txn.now c.args.level c.args.key.now c.args.p c.in_err-own.ensures.reaches.reading c.from_residual.ensures.1

pub returns-in_err-child-clause-reading : goal.returns-in_err-child-clause-reading
returns-in_err-child-clause-reading g t c = no_child c.args.txn.now c.args.level c.args.key.now c.args.p NotAStore c.in_ok-own.ensures.reaches.reading.quiet
    c.from_residual-in_err-child.ensures.1 refl c.if-level-eq0.false c.lent-bytes.ensures c.in_ok-own.ensures.lends c.in_err-child.ensures.err

pub returns-then-child-count-clause-reading : goal.returns-then-child-count-clause-reading
returns-then-child-count-clause-reading g t c = reads_err c.in_ok-own.ensures.reaches.reading.quiet (λ honest is.
    let go = down _ _ _ _ _ c.in_ok-child.child c.if-level-eq0.false c.lend_level.ensures.reaches.few (c.lent-bytes.ensures ∙ c.in_ok-own.ensures.lends honest) c.in_ok-child.ensures.child is.0 in
    omega arith)

-- ---- below
pub returns-clause-leads : goal.returns-clause-leads
returns-clause-leads g t c = λ honest.
    leads_up c.leaf_below.result c.args.txn.now c.args.level c.args.key.now c.args.p c.in_ok-child.child c.if-level-eq0.false c.in_ok-own.ensures.reaches.reading.quiet
    c.lent-bytes.ensures c.in_ok-own.ensures.lends c.in_ok-child.ensures.child (c.leaf_below.ensures.reading.quiet.honest honest) (c.leaf_below.ensures.leads honest)

pub returns-clause-reading : goal.returns-clause-reading
returns-clause-reading g t c = not_below c.args.txn.now c.args.level c.args.key.now c.args.p c.in_ok-child.child c.if-level-eq0.false c.lend_level.ensures.reaches.few
    c.in_ok-own.ensures.reaches.reading.passed c.lent-bytes.ensures c.in_ok-own.ensures.lends c.in_ok-child.ensures.child c.leaf_below.ensures.reading

-- ---- how far
pub returns-then-level-eq0-clause-reach : goal.returns-then-level-eq0-clause-reach
returns-then-level-eq0-clause-reach g t c = λ honest other between. leads_none (over c.args.txn.now (stored c.args.pages.now)) c.args.level c.args.p other c.if-level-eq0.true

pub returns-clause-reach : goal.returns-clause-reach
returns-clause-reach g t c = λ honest.
    reach_up c.leaf_below.result c.args.txn.now c.args.level c.args.key.now c.args.p c.in_ok-child.child c.if-level-eq0.false c.in_ok-own.ensures.reaches.reading.quiet
    c.lent-bytes.ensures c.in_ok-own.ensures.lends c.in_ok-child.ensures.child (c.leaf_below.ensures.reading.quiet.honest honest) (end_of c.leaf_below.new.reach)
    (λ node at rises other under. c.in_ok-child.ensures.within node at rises other (c.leaf_below.ensures.nearer other under)) (c.leaf_below.ensures.reach honest)

pub returns-clause-nearer : goal.returns-clause-nearer
returns-clause-nearer g t c = λ other under. c.in_ok-child.ensures.nearer other (c.leaf_below.ensures.nearer other under)
