use Rattle.{std.proofs.Common.{List, true, false, rules}, page_btree_node.specs.{Searching.IsBelow, claim.{Entries.Entry, Node.IsNode, Places.Rises}}}
use Rattle.page_btree_node.proofs.PageEdits.{refused, none_put, puts_found, puts_gap}
use Rattle.page_btree_node.proofs.edit.put_row.Goals as goal

pub returns-in_err-spot : goal.returns-in_err-spot
returns-in_err-spot c = search (rules, refused c.from_residual.result ((es : List Entry) → IsNode c.args.page.now (record { level = 0; entries = es }) → Rises es → IsBelow c.args.key.now es c.args.from.k c.args.from.at → ⊥) (λ es is rises begun. c.in_err-spot.ensures _ is begun))

pub returns-in_err-fits : goal.returns-in_err-fits
returns-in_err-fits c =
    let none = none_put _ c.args.key.now true c.args.from _ c.in_ok-spot.ensures c.if-spot.true (λ es is spot. c.in_err-fits.ensures _ is spot.0.within spot.2) in
    search (rules, refused c.from_residual-in_err-fits.result _ none)

pub returns-then-spot : goal.returns-then-spot
returns-then-spot c = puts_found _ _ _ _ c.args.from _ _ _ c.in_ok-spot.ensures c.if-spot.true c.in_ok-fits.ensures c.told.ensures

pub returns-in_err-fits-2 : goal.returns-in_err-fits-2
returns-in_err-fits-2 c =
    let none = none_put _ c.args.key.now false c.args.from _ c.in_ok-spot.ensures c.if-spot.false (λ es is spot. c.in_err-fits-2.ensures _ is spot.0.within spot.1) in
    search (rules, refused c.from_residual-in_err-fits-2.result _ none)

pub returns : goal.returns
returns c = puts_gap _ _ _ _ c.args.from _ _ _ c.in_ok-spot.ensures c.if-spot.false c.in_ok-fits-2.ensures c.told-2.ensures
