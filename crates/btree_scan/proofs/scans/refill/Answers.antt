use Rattle.{std.{specs.FinMap.entries, proofs.Common.{◌≡◌, arith, rules}}, btree_scan.proofs.Ready.{ok_then, ready_turn, scan_fails}}
use Rattle.page_btree.proofs.node.Nearing.{where_err}
use Rattle.page_btree.proofs.gets.Outcomes.{refused_as, fault_refused}
use Rattle.btree_scan.proofs.scans.refill.Goals as goal

pub returns-then-leaf-gt0-2-clause-rows : goal.returns-then-leaf-gt0-2-clause-rows
returns-then-leaf-gt0-2-clause-rows g c = λ honest m rest holds is.
    let none : c.args.leaf.now.left ≡ 0 = let few = c.if-leaf-gt0.false in omega arith in
    ok_then c.turn.result _ _ (c.turn.ensures.turned is.others is.others_are) (λ there. ready_turn c.args.covered.now c.args.prefix.now c.args.leaf.now c.turn.new.leaf c.args.held.now c.turn.new.held (entries m) rest is none there c.turn.ensures.bound)

pub returns-in_err-read_on-clause-reading : goal.returns-in_err-read_on-clause-reading
returns-in_err-read_on-clause-reading g c = refused_as _ c.in_err-read_on.ensures.reading c.from_residual.ensures.1 (scan_fails _ c.args.txn.now c.args.pages.now c.read_on.new.pages _)

pub returns-then-leaf-eq0-clause-rows : goal.returns-then-leaf-eq0-clause-rows
returns-then-leaf-eq0-clause-rows g c = λ honest m rest holds is. search (rules, c.in_ok-read_on.ensures.rows honest m rest holds is)

pub returns-clause-rows : goal.returns-clause-rows
returns-clause-rows g c = λ honest m rest holds is.
    let there = (c.in_ok-read_on.ensures.rows honest m rest holds is).0 in
    let none : c.read_on.new.leaf.left ≡ 0 = let few = c.if-leaf-gt0-3.false in omega arith in
    ok_then c.turn-2.result _ _ (c.turn-2.ensures.turned there.others there.others_are) (λ next. ready_turn c.read_on.new.covered c.args.prefix.now c.read_on.new.leaf c.turn-2.new.leaf c.read_on.new.held c.turn-2.new.held (entries m) rest there none next c.turn-2.ensures.bound)

pub returns-clause-reading : goal.returns-clause-reading
returns-clause-reading g c = fault_refused c.in_ok-read_on.ensures.reading.passed c.turn-2.ensures.err (where_err c.turn-2.result _ _ (λ refused honest m holds ready.
    let there = (c.in_ok-read_on.ensures.rows honest m ready.0 holds ready.1).0 in
    refused there.others there.others_are) c.turn-2.ensures.refused)
