use Rattle.{std.proofs.Common.{arith, ◌∙◌, below_more, rules}, page_btree_node.proofs.{Laws.{found_here, above_middle, same_key}, Scanning.{told_of, end_of}}}
use Rattle.page_btree_node.proofs.spot.spot_after.Goals as goal

pub returns-in-Greater : goal.returns-in-Greater
returns-in-Greater c = record {
  spot = λ node is rises begun.
      let place = c.loop-k.invariant.2 node is begun in
      let greater = told_of (λ r. r) _ c.args.key.now node c.loop-k.k c.loop-k.at _ _ _ is (omega arith) place.0 c.in-Some-bounds_in.ensures.some c.compare_part.ensures ∙ c.in-Greater.is in
      (record { within = omega arith; below = place.1 rises; above = above_middle node.entries c.args.key.now c.loop-k.k rises greater }, place.0, place.0);
  order = search rules;
  few = search rules;
}

pub returns-in-Equal : goal.returns-in-Equal
returns-in-Equal c = record {
  spot = λ node is rises begun.
      let place = c.loop-k.invariant.2 node is begun in
      let here = told_of (λ r. r) _ c.args.key.now node c.loop-k.k c.loop-k.at _ _ _ is (omega arith) place.0 c.in-Some-bounds_in.ensures.some c.compare_part.ensures ∙ c.in-Equal.is in (
        found_here node.entries c.args.key.now c.loop-k.k rises (omega arith) (same_key _ _ here),
        place.0,
        end_of _ node c.loop-k.k c.loop-k.at _ _ is (omega arith) place.0 c.in-Some-bounds_in.ensures.some,
      );
  order = search rules;
  few = search rules;
}

pub loop-k-preserved : goal.loop-k-preserved
loop-k-preserved c =
    let lies = c.in-Some-bounds_in.ensures.some in
    let low = c.loop-k.invariant.0 in (
      omega arith,
      lies.within,
      λ node is begun.
          let place = c.loop-k.invariant.2 node is begun in
          let less = told_of (λ r. r) _ c.args.key.now node c.loop-k.k c.loop-k.at _ _ _ is (omega arith) place.0 lies c.compare_part.ensures ∙ c.in-Less.is in
          (end_of _ node c.loop-k.k c.loop-k.at _ _ is (omega arith) place.0 lies, λ rises. below_more _ _ (place.1 rises) less),
    )
