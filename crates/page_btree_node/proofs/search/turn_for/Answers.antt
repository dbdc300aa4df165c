use Rattle.{std.{specs.{Ordering.is_gt, Prelude.Ok}, proofs.Common.{◌≤◌, ℕ, arith, sym, ◌∙◌, rules}}, page_btree_node.proofs.Laws.{ceiling_at, ceiling_none}}
use Rattle.page_btree_node.proofs.Scanning.{told_of, last_next, child_ok}
use Rattle.page_btree_node.proofs.search.turn_for.Goals as goal
use Rattle.page_btree_node.proofs.search.turn_for.Goals.{else-k-gt0-via-then-k-gt0+else-is_above, else-k-gt0-via-else-k-gt0}

pub loop-k-preserved : goal.loop-k-preserved
loop-k-preserved c =
    let lies = c.in-Some-bounds_in.ensures.some in
    let within = lies.within in (
      search rules,
      omega arith,
      λ node is rises. last_next _ c.args.key.now node c.loop-k.k c.loop-k.value c.loop-k.at _ _ is (omega arith) (c.loop-k.invariant.2 node is rises) lies (λ some. elim c.else-k-gt0.branch [
        | else-k-gt0-via-then-k-gt0+else-is_above w ↦ sym w.if-is_above.false ∙ w.is_above.ensures
        | else-k-gt0-via-else-k-gt0 w ↦ absurd (omega arith)
      ]),
    )

pub returns-then-is_above : goal.returns-then-is_above
returns-then-is_above c = record {
  child = λ node is rises.
      let last = c.loop-k.invariant.2 node is rises in
      let above = told_of is_gt _ c.args.key.now node c.loop-k.k c.loop-k.at _ _ _ is (omega arith) last.place c.in-Some-bounds_in.ensures.some c.is_above.ensures ∙ c.if-is_above.true in
      child_ok {E = ℕ} _ c.args.key.now node.entries c.loop-k.k c.loop-k.value c.loop-k.at (Ok c.in_ok-child.child) last (omega arith) (λ _. above) c.in_ok-child.ensures.ok;
  lies = search rules;
  few = search rules;
  above = λ node is rises.
      let last = c.loop-k.invariant.2 node is rises in
      let above = told_of is_gt _ c.args.key.now node c.loop-k.k c.loop-k.at _ _ _ is (omega arith) last.place c.in-Some-bounds_in.ensures.some c.is_above.ensures ∙ c.if-is_above.true in
      search (rules, ceiling_at);
  last = search rules;
}

pub returns : goal.returns
returns c = record {
  child = λ node is rises.
      let few : c.in-Some.near.k ≤ c.count_of-count.result = let most = c.in-Some.ensures.within.2 in let count_is = c.count_of-count.ensures.count in omega arith in
      child_ok {E = ℕ} _ c.args.key.now node.entries c.loop-k.k c.loop-k.value c.loop-k.at (Ok c.in_ok-child-2.child) (c.loop-k.invariant.2 node is rises) (omega arith) (λ more. absurd (omega arith)) c.in_ok-child-2.ensures.ok;
  lies = search rules;
  few = search rules;
  above = search rules;
  last = λ node is rises.
      let few : c.in-Some.near.k ≤ c.count_of-count.result = let most = c.in-Some.ensures.within.2 in let count_is = c.count_of-count.ensures.count in omega arith in
      ceiling_none c.args.key.now node.entries (λ j some less. (c.loop-k.invariant.2 node is rises).below j some (omega arith));
}
