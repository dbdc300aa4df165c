use Rattle.{std.{specs.Prelude.None, proofs.Common.{◌≡◌, sym, subst}}, page_btree_gets.specs.Errors.IsNoWant, page_btree_puts.specs.Putting.IsWritten}
use Rattle.{page_store.{specs.claim.Transactions.{stored, over, free_over}, proofs.Stops.quiet_none}, page_btree_gets.proofs.Outcomes.{match_of, refused_as, refused_by}}
use Rattle.page_btree_puts.proofs.{Failing.row_written_failed, Placing.{found_had, found_node, found_fits, gap_had, gap_missing, gap_node}}
use Rattle.page_btree_puts.proofs.puts.put_row.Goals as goal

pub returns-in_err-read-clause-reading : goal.returns-in_err-read-clause-reading
returns-in_err-read-clause-reading g c = refused_by _ c.from_residual.ensures.1 (quiet_none c.args.pages.now) (λ honest are es node. c.in_err-read.ensures.refused _ node)

pub returns-in_err-right-in-Ok-clause-fixed : goal.returns-in_err-right-in-Ok-clause-fixed
returns-in_err-right-in-Ok-clause-fixed g c = λ es held is rises there same.
    let fits = found_fits _ _ c.replace.new.self es c.in-Ok.i c.args.key.now c.args.value.now c.in_ok-read.ensures.read is rises c.in-Ok.ensures.place c.replace.ensures held there same in
    match_of c.from_residual-in_err-right-in-Ok.result (λ placed. placed.right ≡ None) c.in_err-right-in-Ok.field-0.0 IsNoWant c.from_residual-in_err-right-in-Ok.ensures.1 (subst IsNoWant (sym (c.in_err-right-in-Ok.ensures.fits fits)) tt)

pub returns-in_err-right-in-Err-clause-fixed : goal.returns-in_err-right-in-Err-clause-fixed
returns-in_err-right-in-Err-clause-fixed g c = λ es held is rises there same. absurd (gap_missing _ _ c.insert.new.self es c.in-Err.i c.args.key.now c.args.value.now c.in_ok-read.ensures.read is rises c.in-Err.ensures.place held there)

pub returns-in_ok-right-in-Ok-clause-put : goal.returns-in_ok-right-in-Ok-clause-put
returns-in_ok-right-in-Ok-clause-put g c = λ honest es is rises are off.
    let S = stored c.args.pages.now in
    let e = found_node _ _ _ es c.in-Ok.i c.args.key.now c.args.value.now c.in_ok-read.ensures.read is rises c.in-Ok.ensures.place c.replace.ensures in (
      found_had _ _ _ es c.in-Ok.i c.args.key.now c.args.value.now c.in_ok-read.ensures.read is rises c.in-Ok.ensures.place c.replace.ensures,
      subst (λ node. IsWritten (over c.args.txn.now S) (over c.settle.new.txn S) (free_over c.args.txn.now S) (free_over c.settle.new.txn S) c.args.page c.in_ok-right-in-Ok.right node c.settle.new.room.upper) e (c.in_ok-right-in-Ok.ensures.written honest are off),
    )

pub returns-in_ok-right-in-Ok-clause-fixed : goal.returns-in_ok-right-in-Ok-clause-fixed
returns-in_ok-right-in-Ok-clause-fixed g c = λ es held is rises there same.
    c.in_ok-right-in-Ok.ensures.fits (found_fits _ _ _ es c.in-Ok.i c.args.key.now c.args.value.now c.in_ok-read.ensures.read is rises c.in-Ok.ensures.place c.replace.ensures held there same)

pub returns-in_ok-right-in-Err-clause-put : goal.returns-in_ok-right-in-Err-clause-put
returns-in_ok-right-in-Err-clause-put g c = λ honest es is rises are off.
    let S = stored c.args.pages.now in
    let e = gap_node _ _ c.insert.new.self es c.in-Err.i c.args.key.now c.args.value.now c.in_ok-read.ensures.read is rises c.in-Err.ensures.place c.insert.ensures in (
      gap_had _ _ c.insert.new.self es c.in-Err.i c.args.key.now c.args.value.now c.in_ok-read.ensures.read is rises c.in-Err.ensures.place,
      subst (λ node. IsWritten (over c.args.txn.now S) (over c.settle-in-Err.new.txn S) (free_over c.args.txn.now S) (free_over c.settle-in-Err.new.txn S) c.args.page c.in_ok-right-in-Err.right node c.settle-in-Err.new.room.upper) e (c.in_ok-right-in-Err.ensures.written honest are off),
    )

pub returns-in_ok-right-in-Err-clause-fixed : goal.returns-in_ok-right-in-Err-clause-fixed
returns-in_ok-right-in-Err-clause-fixed g c = λ es held is rises there same. absurd (gap_missing _ _ c.insert.new.self es c.in-Err.i c.args.key.now c.args.value.now c.in_ok-read.ensures.read is rises c.in-Err.ensures.place held there)

pub returns-in_err-right-in-Ok-clause-reading : goal.returns-in_err-right-in-Ok-clause-reading
returns-in_err-right-in-Ok-clause-reading g c = refused_as _ c.in_err-right-in-Ok.ensures.reading c.from_residual-in_err-right-in-Ok.ensures.1 (row_written_failed c.args.room.now.page c.args.txn.now c.args.pages.now c.settle.new.pages _)

pub returns-in_err-right-in-Err-clause-reading : goal.returns-in_err-right-in-Err-clause-reading
returns-in_err-right-in-Err-clause-reading g c = refused_as _ c.in_err-right-in-Err.ensures.reading c.from_residual-in_err-right-in-Err.ensures.1 (row_written_failed c.args.room.now.page c.args.txn.now c.args.pages.now c.settle-in-Err.new.pages _)
