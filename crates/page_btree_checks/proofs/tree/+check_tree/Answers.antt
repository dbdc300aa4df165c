use Rattle.{std.{specs.Option.option_copied, proofs.Common.{◌≡◌, ◌<◌, ◌≤◌, ◌+◌, ◌-◌, ◌^◌, length, refl, sym, ◌∙◌, arith, rules}}, page_btree_checks.specs.Faults.TellsOf}
use Rattle.{page_store.specs.claim.Transactions.{stored, txn_pages, over}, page_btree_checks.proofs.Children.{can_level, can_order, can_walk_all, can_walk_child, can_walk_next}}
use Rattle.page_btree_checks.proofs.{Errors.unsound_after, Faults.place_more, Keys.above_ordered, Trees.{walked_leaf, walked_inner, walked_next}}
use Rattle.{page_btree_gets.proofs.Outcomes.{err_of, reads_err}, page_store.proofs.Stops.{passed_none, passed_more}}
use Rattle.page_btree_checks.proofs.tree.+check_tree.Goals as goal

pub returns-in_err-name-clause-reading : goal.returns-in_err-name-clause-reading
returns-in_err-name-clause-reading g t c = search rules

pub read_node-requires-clause-below : goal.read_node-requires-clause-below
read_node-requires-clause-below g t c = let lt = c.in_ok-name.ensures.named.within c.args.page refl in omega arith

pub returns-in_err-read_node-clause-reading : goal.returns-in_err-read_node-clause-reading
returns-in_err-read_node-clause-reading g t c =
    unsound_after (passed_none c.args.pages.now) c.in_err-read_node.ensures.reading c.from_residual-in_err-read_node.ensures.1 (λ honest is. can_level _ _ _ _ _ _ is)

pub returns-then-not-is_ordered-clause-reading : goal.returns-then-not-is_ordered-clause-reading
returns-then-not-is_ordered-clause-reading g t c = reads_err c.in_ok-read_node.ensures.reading.quiet (λ honest is.
    c.is_ordered.ensures.no c.if-not-is_ordered.true (rw c.in_ok-read_node.ensures.level (can_order _ _ _ _ _ _ is _ (c.in_ok-read_node.ensures.node honest))))

pub returns-then-level-eq0-clause-walked : goal.returns-then-level-eq0-clause-walked
returns-then-level-eq0-clause-walked g t c = λ honest. search (rules, walked_leaf)

pub returns-then-level-eq0-clause-long : goal.returns-then-level-eq0-clause-long
returns-then-level-eq0-clause-long g t c = c.in_ok-name.ensures.named.long

pub loop-k-init : goal.loop-k-init
loop-k-init g t c =
    let node = c.in_ok-read_node.ensures in
    let named = c.in_ok-name.ensures.named in
    let parts = above_ordered _ _ c.args.level _ c.if-level-eq0.false (rw node.level at (c.is_ordered.ensures.yes c.if-not-is_ordered.false)) in
    record {
      begun = c.requires.begun ∙ sym node.reading.quiet.count;
      long = named.long ∙ c.requires.long;
      passed = node.reading.passed;
      node_is = node.node;
      below = λ honest. search (walked_inner, node.node, can_walk_all);
    }

pub returns-in_err-check_tree-clause-reading : goal.returns-in_err-check_tree-clause-reading
returns-in_err-check_tree-clause-reading g t c =
    let before = c.loop-k.invariant in
    let child = c.child_at-child.ensures in
    unsound_after before.passed (rw (c.lower-from.ensures, c.upper-to.ensures) at c.in_err-check_tree.ensures.reading) c.from_residual-in_err-check_tree.ensures.1 (λ honest is.
    let then = c.in_err-check_tree.ensures.reading.quiet.honest honest in
    let few : length c.loop-k.marks.seen.items ≤ 2 ^ 32 = let few = c.in_ok-name.ensures.few in omega arith in
    let lt : c.loop-k.k < length c.read_node.new.node.entries = let n = c.len-k-end.ensures.len in omega arith in
    rw (before.passed.quiet.same then) (can_walk_child _ _ _ _ _ _ _ _ few child.fits lt child.child ((before.below then).can is lt)))

pub loop-k-preserved : goal.loop-k-preserved
loop-k-preserved g t c =
    let before = c.loop-k.invariant in
    let walks = c.in_ok-check_tree.ensures in
    let child = c.child_at-child.ensures in
    let lt : c.loop-k.k < length c.read_node.new.node.entries = let n = c.len-k-end.ensures.len in omega arith in
    record {
      begun = before.begun ∙ sym walks.reading.quiet.count;
      long = walks.long ∙ before.long;
      passed = passed_more _ _ _ before.passed walks.reading.passed;
      node_is = λ honest. before.node_is (walks.reading.quiet.honest honest);
      below = λ honest.
          let then = walks.reading.quiet.honest honest in
          let down = before.below then in
          let both = rw (before.passed.quiet.same then, c.lower-from.ensures, c.upper-to.ensures) at (walks.walked honest) in
          let few : length c.loop-k.marks.seen.items ≤ 2 ^ 32 = let few = c.in_ok-name.ensures.few in omega arith in
          let parts = above_ordered _ _ c.args.level _ c.if-level-eq0.false (rw c.in_ok-read_node.ensures.level at (c.is_ordered.ensures.yes c.if-not-is_ordered.false)) in
          record {
            walked = λ end was. down.walked end (walked_next _ _ _ _ _ _ _ _ _ end lt both was child.child parts);
            can = λ can more. can_walk_next _ _ _ _ _ _ _ _ _ few child.fits more child.child both (down.can can lt);
          };
    }

pub returns-clause-long : goal.returns-clause-long
returns-clause-long g t c = c.loop-k.invariant.long ∙ sym c.requires.long

pub returns-clause-walked : goal.returns-clause-walked
returns-clause-walked g t c = λ honest. search rules

pub returns-in_err-name-clause-told : goal.returns-in_err-name-clause-told
returns-in_err-name-clause-told g t c = λ honest place. search rules

pub returns-in_err-read_node-clause-told : goal.returns-in_err-read_node-clause-told
returns-in_err-read_node-clause-told g t c = λ honest place. search rules

pub returns-then-not-is_ordered-clause-told : goal.returns-then-not-is_ordered-clause-told
returns-then-not-is_ordered-clause-told g t c = λ honest place.
    (c.args.level, c.args.low.now, option_copied c.args.high, place, (c.read_node.new.node, c.in_ok-read_node.ensures.node honest, c.is_ordered.ensures.no c.if-not-is_ordered.true))

pub returns-in_err-check_tree-clause-told : goal.returns-in_err-check_tree-clause-told
returns-in_err-check_tree-clause-told g t c = λ honest place.
    let before = c.loop-k.invariant in
    let then = c.in_err-check_tree.ensures.reading.quiet.honest honest in
    let same = before.passed.quiet.same then in
    let lt : c.loop-k.k < length c.read_node.new.node.entries = let n = c.len-k-end.ensures.len in omega arith in
    let down : c.args.level ≡ (c.args.level - 1) + 1 = let some = c.if-level-eq0.false in omega arith in
    let below = place_more _ _ _ _ _ c.read_node.new.node c.loop-k.k _ _ place (before.node_is then) c.in_ok-read_node.ensures.level down lt c.child_at-child.ensures.child in
    err_of _ _ (TellsOf (txn_pages c.args.txn.now) (over c.args.txn.now (stored c.args.pages.now))) c.from_residual-in_err-check_tree.ensures.1 (rw same at (c.in_err-check_tree.ensures.told honest (rw (same, c.lower-from.ensures, c.upper-to.ensures) below)))
