use Rattle.{std.{specs.Prelude.Some, proofs.Common.{◌≤◌, arith, sym, ap, ◌∙◌, below_more, rules}}, page_btree_node.proofs.Laws.{find_none, find_at, above_middle, same_key}}
use Rattle.page_btree_node.proofs.Scanning.{entry_of, told_of, end_of, value_part}
use Rattle.page_btree_node.proofs.search.value_after.Goals as goal

pub returns-in-Greater-clause-value : goal.returns-in-Greater-clause-value
returns-in-Greater-clause-value c = λ node is rises begun.
    let place = c.loop-k.invariant.1 node is begun in
    let greater = told_of (λ r. r) _ c.args.key.now node c.loop-k.k c.loop-k.at _ _ _ is (omega arith) place.0 c.in-Some-bounds_in.ensures.some c.compare_part.ensures ∙ c.in-Greater.is in
    sym (find_none c.args.key.now node.entries c.loop-k.k (λ j less within. place.1 rises j less) (above_middle node.entries c.args.key.now c.loop-k.k rises greater))

pub returns-in-Equal-clause-value : goal.returns-in-Equal-clause-value
returns-in-Equal-clause-value c = λ node is rises begun.
    let place = c.loop-k.invariant.1 node is begun in
    let e = entry_of _ node c.loop-k.k c.loop-k.at is (omega arith) place.0 in
    let here = told_of (λ r. r) _ c.args.key.now node c.loop-k.k c.loop-k.at _ _ _ is (omega arith) place.0 c.in-Some-bounds_in.ensures.some c.compare_part.ensures ∙ c.in-Equal.is in
    ap Some (c.part.ensures ∙ value_part _ _ _ _ _ _ e c.in-Some-bounds_in.ensures.some) ∙ sym (find_at c.args.key.now node.entries c.loop-k.k (omega arith) (same_key _ _ here) (place.1 rises))

pub loop-k-preserved : goal.loop-k-preserved
loop-k-preserved c = (
  search rules,
  λ node is begun.
      let place = c.loop-k.invariant.1 node is begun in
      let less = told_of (λ r. r) _ c.args.key.now node c.loop-k.k c.loop-k.at _ _ _ is (omega arith) place.0 c.in-Some-bounds_in.ensures.some c.compare_part.ensures ∙ c.in-Less.is in
      (end_of _ node c.loop-k.k c.loop-k.at _ _ is (omega arith) place.0 c.in-Some-bounds_in.ensures.some, λ rises. below_more _ _ (place.1 rises) less),
)

pub returns-clause-value : goal.returns-clause-value
returns-clause-value c = λ node is rises begun.
    let few : c.in-Some.near.k ≤ c.count_of-count.result = let most = c.in-Some.ensures.within.2 in let count_is = c.count_of-count.ensures.count in omega arith in
    sym (find_none _ node.entries c.loop-k.k (λ j less within. (c.loop-k.invariant.1 node is begun).1 rises j less) (λ j le within. absurd (omega arith)))
