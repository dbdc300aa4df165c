use Rattle.{std.proofs.Common.{arith, rules}, desk_store_rows.specs.RevisionSteps.new_holder_count, chunk_table.proofs.Writing.{told_more_row, told_fail_row, all_told}}
use Rattle.desk_store_pages.proofs.Rising.{from_none}
use Rattle.chunk_table.proofs.holdings.put_counts.Goals as goal

pub loop-k-init : goal.loop-k-init
loop-k-init g c = search (rules, arith, from_none, c.none-fingers.result, c.args.txn.now, c.args.pages.now, c.none-fingers.ensures.first, c.none-fingers.ensures.second, c.requires.begun)

pub returns-in_err-put_row_with : goal.returns-in_err-put_row_with
returns-in_err-put_row_with g c =
    let why = c.in_err-put_row_with.ensures in
    told_fail_row (new_holder_count c.args.first) c.args.count c.from_residual.result c.in_err-put_row_with.field-0.0 (λ i. (c.holder_count.ensures i, c.holder_count_value.ensures i)) c.loop-k-test.true c.loop-k.invariant.put why.quiet why.begun why.put c.from_residual.ensures.1

pub loop-k-preserved : goal.loop-k-preserved
loop-k-preserved g c = record {
  put = told_more_row (new_holder_count c.args.first) (λ i. (c.holder_count.ensures i, c.holder_count_value.ensures i)) c.loop-k.invariant.put c.in_ok-put_row_with.ensures.put;
  begun = c.in_ok-put_row_with.ensures.begun;
}

pub returns : goal.returns
returns g c = all_told (new_holder_count c.args.first) c.loop-k.k c.args.count
    (omega (arith, c.loop-k-test.false, c.loop-k.auto.k-end)) c.loop-k.invariant.put c.loop-k.invariant.begun
