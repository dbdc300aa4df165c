use Rattle.{std.{specs.{List.starts_with, Prelude.Some}, proofs.Common.{◌≡◌, ℕ, ◌+◌, true, nat_eq, arith, sym, ap, ◌∙◌, subst, rules}}, page_btree_node.specs.Entries.key_at}
use Rattle.page_btree_node.{specs.{Walking.part_of, Ways.AreWays}, proofs.{Following.{here_key, here_next, here_child, here_no_child, ways_there, ways_next}, Scanning.lies_there}}
use Rattle.page_btree_node.proofs.ways.follow.Goals as goal

pub returns-in-None : goal.returns-in-None
returns-in-None c = λ node is key turn inner.
    let kept = c.loop-more.invariant in
    let here = kept.3 node is key turn in
    lies_there _ node (c.loop-more.bound.k + 1) c.loop-more.bound.end is (omega arith) (here_next _ node c.loop-more.bound.k _ _ _ is here kept.1) c.in-None.ensures.none

pub returns-then-not-starts_with : goal.returns-then-not-starts_with
returns-then-not-starts_with c = record {
  few = search rules;
  there = search rules;
  ways = λ node is rises key child turn child_is.
      let kept = c.loop-more.invariant in
      ways_there _ c.args.prefix.now node key child c.loop-more.more c.loop-more.after c.loop-more.bound.k _ _ _ is (kept.3 node is key turn) kept.1 (kept.4 node is rises key child turn child_is);
}

pub returns-in-Err : goal.returns-in-Err
returns-in-Err c = λ node is key turn inner.
    let kept = c.loop-more.invariant in
    here_no_child _ node c.loop-more.bound.k _ _ _ is (kept.3 node is key turn) kept.1 inner c.in-Err.ensures.err

pub loop-more-preserved : goal.loop-more-preserved
loop-more-preserved c =
    let kept = c.loop-more.invariant in
    let few = c.count_of-count.ensures.few in (
      omega arith,
      search rules,
      search rules,
      λ node is key turn. search (rules, here_next, kept.3),
      λ node is rises key child turn child_is.
          let here = kept.3 node is key turn in
          let under : starts_with nat_eq (key_at node.entries c.loop-more.bound.k) c.args.prefix.now ≡ true = ap (λ l. starts_with nat_eq l c.args.prefix.now) (sym (here_key _ node c.loop-more.bound.k _ _ _ is here kept.1)) ∙ kept.2 in
          ways_next c.args.prefix.now node.entries key child c.loop-more.more c.loop-more.after c.loop-more.bound.k c.in-Ok.child rises here.some (omega arith) (omega arith) (kept.4 node is rises key child turn child_is) under
          (here_child _ node c.loop-more.bound.k _ _ _ c.in-Ok.child is here kept.1 c.in-Ok.ensures.ok.1 c.in-Ok.ensures.ok.2),
    )

pub returns : goal.returns
returns c = record {
  few = search rules;
  there = search rules;
  ways = λ node is rises key child turn child_is.
      let kept = c.loop-more.invariant in
      let all : c.loop-more.more ≡ 3 = omega arith in
      subst (λ (more : ℕ). AreWays c.args.prefix.now node.entries key child more c.loop-more.after (Some (part_of c.args.page.now (c.loop-more.bound.at + 3) c.loop-more.bound.value))) all
      (ways_there _ c.args.prefix.now node key child c.loop-more.more c.loop-more.after c.loop-more.bound.k _ _ _ is (kept.3 node is key turn) kept.1 (kept.4 node is rises key child turn child_is));
}
