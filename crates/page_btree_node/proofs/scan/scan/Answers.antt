use Rattle.{std.proofs.Common.arith, page_btree_node.proofs.Scanning.{scanned_not, scanned_next, scanned_end}}
use Rattle.page_btree_node.proofs.scan.scan.Goals as goal
use Rattle.page_btree_node.proofs.scan.scan.Goals.{else-level-gt0-via-then-level-gt0+else-bounds-ne4, else-level-gt0-via-else-level-gt0}

pub returns-in_err-bounds-clause-scanned : goal.returns-in_err-bounds-clause-scanned
returns-in_err-bounds-clause-scanned c = search (c.loop-k.ends, c.from_residual.ensures, scanned_not, c.in_err-bounds.ensures.none)

pub loop-k-preserved : goal.loop-k-preserved
loop-k-preserved c =
    scanned_next _ _ _ _ _ _ _ _ c.loop-k.invariant c.loop-k-test.true (omega arith) c.told-page c.fits-page c.in_ok-bounds.ensures.some
    (λ inner. elim c.else-level-gt0.branch [ else-level-gt0-via-then-level-gt0+else-bounds-ne4 w ↦ omega arith | else-level-gt0-via-else-level-gt0 w ↦ absurd (omega arith) ])

pub returns-clause-scanned : goal.returns-clause-scanned
returns-clause-scanned c = search (arith, scanned_end _ _ _ _ _ _ c.loop-k.invariant (omega arith) c.if-level-gt5.false c.if-count-gt1364.false)
