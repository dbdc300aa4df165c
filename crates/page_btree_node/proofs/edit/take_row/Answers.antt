use Rattle.{std.proofs.Common.{List, true, false, refl, rules}, page_btree_node.{specs.claim.{Entries.Entry, Node.IsNode, Places.Rises}, proofs.Laws.gap_find}}
use Rattle.page_btree_node.proofs.{Nearing.first_below, PageEdits.{refused, none_taken, spot_of}}
use Rattle.page_btree_node.proofs.edit.take_row.Goals as goal

pub returns-in_err-spot : goal.returns-in_err-spot
returns-in_err-spot c = search (rules, refused c.from_residual.result ((es : List Entry) → IsNode c.args.page.now (record { level = 0; entries = es }) → Rises es → ⊥) (λ es is rises. c.in_err-spot.ensures _ is (first_below c.args.key.now es)))

pub returns : goal.returns
returns c = record {
  taken = λ es is rises. (refl, gap_find _ es _ (spot_of _ c.args.key.now es false _ _ c.in_ok-spot.ensures c.if-spot.false is rises (first_below _ es)).0);
  absent = search rules;
  err = search rules;
}

pub returns-in_err-left : goal.returns-in_err-left
returns-in_err-left c = search (rules, refused c.from_residual-in_err-left.result _ (none_taken _ c.args.key.now _ c.in_ok-spot.ensures c.if-spot.true c.in_err-left.ensures))

pub returns-then-spot : goal.returns-then-spot
returns-then-spot c = record {
  taken = λ es is rises.
      let spot = spot_of _ c.args.key.now es true _ _ c.in_ok-spot.ensures c.if-spot.true is rises (first_below _ es) in
      let done = c.in_ok-left.ensures _ _ is spot.0.within spot.1 spot.2 in
      (c.in_ok-spot.spot.index, spot.0, done.0, done.1);
  absent = search rules;
  err = search rules;
}
