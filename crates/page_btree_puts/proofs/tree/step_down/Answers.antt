use Rattle.{std.proofs.Common.{◌∙◌, arith}, page_btree_gets.proofs.{Descent.{goes_on, some_child}, Outcomes.{refused_by, reads_err}}, page_btree_puts.proofs.Down.as_get}
use Rattle.page_store.proofs.Stops.{quiet_none}
use Rattle.page_btree_puts.proofs.tree.step_down.Goals as goal

pub returns-in_err-child-clause-reading : goal.returns-in_err-child-clause-reading
returns-in_err-child-clause-reading g c = refused_by _ c.from_residual.ensures.1 (quiet_none c.args.pages.now) (λ honest can.
    some_child _ _ _ _ _ (as_get _ _ _ _ _ _ _ _ _ _ can.3) c.requires.level (λ node at rises. c.in_err-child.ensures.err node at))

pub returns-then-child-count-clause-reading : goal.returns-then-child-count-clause-reading
returns-then-child-count-clause-reading g c = reads_err (quiet_none c.args.pages.now) (λ honest can.
    let level = (goes_on _ _ _ _ _ (as_get _ _ _ _ _ _ _ _ _ _ can.3) c.in_ok-child.child c.requires.level (omega (arith, c.page_count-count.ensures)) (λ node at rises. c.in_ok-child.ensures.child node at)).level in
    let below = level.below in omega arith)

pub returns-then-level_of-level-clause-reading : goal.returns-then-level_of-level-clause-reading
returns-then-level_of-level-clause-reading g c = reads_err c.in_ok-read.ensures.reading.quiet (λ honest can.
    let level = (goes_on _ _ _ _ _ (as_get _ _ _ _ _ _ _ _ _ _ can.3) c.in_ok-child.child c.requires.level (omega (arith, c.page_count-count.ensures)) (λ node at rises. c.in_ok-child.ensures.child node at)).level in
    c.if-level_of-level.true (c.level_of.ensures.level level.node (rw (c.in_ok-read.ensures.reads honest) level.node_is) ∙ level.level_is))
