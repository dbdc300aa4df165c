use Rattle.{std.proofs.Common.{List, true, false, refl, arith, rules}, page_btree_node.{specs.claim.{Entries.Entry, Node.IsNode, Places.Rises}, proofs.Laws.gap_find}}
use Rattle.page_btree_node.proofs.{Nearing.first_below, PageEdits.{refused, none_taken, spot_of, some_left}}
use Rattle.page_btree_node.proofs.edit.take_spare_row.Goals as goal

pub returns-in_err-spot : goal.returns-in_err-spot
returns-in_err-spot c = search (rules, refused c.from_residual.result ((es : List Entry) → IsNode c.args.page.now (record { level = 0; entries = es }) → Rises es → ⊥) (λ es is rises. c.in_err-spot.ensures _ is (first_below c.args.key.now es)))

pub returns-then-count_of-lt2 : goal.returns-then-count_of-lt2
returns-then-count_of-lt2 c = record {
  taken = λ es is rises. let spot = spot_of _ c.args.key.now es true _ _ c.in_ok-spot.ensures c.if-spot.true is rises (first_below _ es) in (refl, omega arith);
  kept = search rules;
  err = search rules;
}

pub returns-in_err-remove_in : goal.returns-in_err-remove_in
returns-in_err-remove_in c = search (rules, refused c.from_residual-in_err-remove_in.result _ (none_taken _ c.args.key.now _ c.in_ok-spot.ensures c.if-spot.true c.in_err-remove_in.ensures))

pub returns-then-spot : goal.returns-then-spot
returns-then-spot c = record {
  taken = λ es is rises.
      let spot = spot_of _ c.args.key.now es true _ _ c.in_ok-spot.ensures c.if-spot.true is rises (first_below _ es) in
      (c.in_ok-spot.spot.index, spot.0, (c.in_ok-remove_in.ensures _ _ is spot.0.within spot.1 spot.2).0, some_left es c.in_ok-spot.spot.index spot.0.within (omega arith));
  kept = search rules;
  err = search rules;
}

pub returns : goal.returns
returns c = record {
  taken = λ es is rises. (refl, gap_find _ es _ (spot_of _ c.args.key.now es false _ _ c.in_ok-spot.ensures c.if-spot.false is rises (first_below _ es)).0);
  kept = search rules;
  err = search rules;
}
