use Rattle.{std.{specs.Ordering.is_gt, proofs.Common.{arith, sym, ◌∙◌, rules}}, page_btree_node.proofs.Scanning.{told_of, last_next, child_ok}}
use Rattle.page_btree_node.proofs.search.child_for.Goals as goal
use Rattle.page_btree_node.proofs.search.child_for.Goals.{else-k-gt0-via-then-k-gt0+else-is_above, else-k-gt0-via-else-k-gt0}

pub returns-then-is_above-clause-child : goal.returns-then-is_above-clause-child
returns-then-is_above-clause-child c = λ node is.
    let last = c.loop-k.invariant.2 node is in
    let above = told_of is_gt _ c.args.key.now node c.loop-k.k c.loop-k.at _ _ _ is (omega arith) last.place c.in-Some.ensures.some c.is_above.ensures ∙ c.if-is_above.true in
    child_ok _ c.args.key.now node.entries c.loop-k.k _ _ c.child_at.result last (omega arith) (λ _. above) c.child_at.ensures.ok

pub loop-k-preserved : goal.loop-k-preserved
loop-k-preserved c =
    let lies = c.in-Some.ensures.some in
    let within = lies.within in (
      search rules,
      omega arith,
      λ node is. last_next _ c.args.key.now node c.loop-k.k c.loop-k.value c.loop-k.at _ _ is (omega arith) (c.loop-k.invariant.2 node is) lies (λ some. elim c.else-k-gt0.branch [
        | else-k-gt0-via-then-k-gt0+else-is_above w ↦ sym w.if-is_above.false ∙ w.is_above.ensures
        | else-k-gt0-via-else-k-gt0 w ↦ absurd (omega arith)
      ]),
    )

pub returns-clause-child : goal.returns-clause-child
returns-clause-child c = λ node is.
    child_ok _ c.args.key.now node.entries c.loop-k.k _ _ c.child_at-2.result (c.loop-k.invariant.2 node is) (omega arith) (λ more. absurd (omega arith)) c.child_at-2.ensures.ok
