use Rattle.{std.proofs.Common.subst, page_btree_gets.{specs.{declared.error.TreeError.TheVariants.NotAStore, node.Spots.IsRowTaken}, proofs.Outcomes.{map_ok, map_err, err_of}}}
use Rattle.page_btree_removes.{specs.Removing.{IsDone, StaysAt, BackErr, TakenErr}, proofs.{Refusals.back_taken, Steps.{row_done, done_stays}}}
use Rattle.page_btree_removes.proofs.removes.remove_row.Goals as goal

pub returns-in_err-take_row-clause-err : goal.returns-in_err-take_row-clause-err
returns-in_err-take_row-clause-err c = err_of c.from_residual.result NotAStore (TakenErr c.args.txn.now c.args.p c.args.page.now) c.from_residual.ensures.1 (λ P es is rises above are off. c.in_err-take_row.ensures.err es is rises)

pub returns-in-None-clause-row : goal.returns-in-None-clause-row
returns-in-None-clause-row c = λ es is rises. (subst (IsRowTaken c.args.page.now c.take_row.new.page c.args.key.now es) c.in-None.is (c.in_ok-take_row.ensures.taken es is rises)).1

pub returns-in-Some-clause-row : goal.returns-in-Some-clause-row
returns-in-Some-clause-row c = λ es is rises.
    let taken = subst (IsRowTaken c.args.page.now c.take_row.new.page c.args.key.now es) c.in-Some.is (c.in_ok-take_row.ensures.taken es is rises) in
    search (map_ok, row_done, c.write_back.ensures.back, taken.2)

pub returns-in-Some-clause-stays : goal.returns-in-Some-clause-stays
returns-in-Some-clause-stays c = map_ok c.write_back.result IsDone (λ did. StaysAt c.args.txn.now c.write_back.new.txn did) (done_stays c.args.txn.now c.write_back.new.txn) c.write_back.ensures.done

pub returns-in-Some-clause-err : goal.returns-in-Some-clause-err
returns-in-Some-clause-err c = map_err c.write_back.result (BackErr c.args.txn.now c.args.p) (TakenErr c.args.txn.now c.args.p c.args.page.now) (back_taken c.args.txn.now c.args.p c.args.page.now) c.write_back.ensures.err
