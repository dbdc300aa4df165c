use Rattle.{std.proofs.Common.{arith, sym}, check_command.proofs.Counted.{one, counted_none, counted_fit, counted_add, counted_all, ones_length}}
use Rattle.check_command.proofs.counts.count_blocks.Goals as goal

pub loop-row-init : goal.loop-row-init
loop-row-init c = counted_none one c.args.rows.now c.args.blocks.now c.requires.codes c.requires.none

pub overflow_add-blocks : goal.overflow_add-blocks
overflow_add-blocks c =
    let fit = counted_fit one c.args.rows.now c.loop-row.row-index c.code_of-code.result c.row-item.result (omega arith) c.row-item.is in
    let is = c.loop-row.invariant.sums c.code_of-code.result c.code_of-code.ensures.known in
    omega (arith, fit, is, ones_length c.args.rows.now, c.requires.rows.few)

pub loop-row-preserved : goal.loop-row-preserved
loop-row-preserved c =
    counted_add one c.args.rows.now c.loop-row.row-index c.loop-row.blocks c.row-item.result c.code_of-code.result (omega arith) c.row-item.is c.loop-row.invariant
    c.code_of-code.ensures.known (sym c.code_of-code.ensures.value)

pub returns : goal.returns
returns c = counted_all one c.args.rows.now c.loop-row.row-index c.loop-row.blocks (omega arith) c.loop-row.invariant
