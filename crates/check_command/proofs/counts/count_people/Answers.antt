use Rattle.{std.proofs.Common.{arith, sym}, check_command.proofs.Counted.{people, counted_none, counted_fit, counted_add, counted_all}}
use Rattle.check_command.proofs.counts.count_people.Goals as goal

pub loop-row-init : goal.loop-row-init
loop-row-init c = counted_none people c.args.rows.now c.args.people.now c.requires.codes c.requires.none

pub overflow_add-people : goal.overflow_add-people
overflow_add-people c =
    let fit = counted_fit people c.args.rows.now c.loop-row.row-index c.code_of-code.result c.row-item.result (omega arith) c.row-item.is in
    let is = c.loop-row.invariant.sums c.code_of-code.result c.code_of-code.ensures.known in
    omega (arith, fit, is, c.requires.rows.people)

pub loop-row-preserved : goal.loop-row-preserved
loop-row-preserved c =
    counted_add people c.args.rows.now c.loop-row.row-index c.loop-row.people c.row-item.result c.code_of-code.result (omega arith) c.row-item.is c.loop-row.invariant
    c.code_of-code.ensures.known (sym c.code_of-code.ensures.value)

pub returns : goal.returns
returns c = counted_all people c.args.rows.now c.loop-row.row-index c.loop-row.people (omega arith) c.loop-row.invariant
