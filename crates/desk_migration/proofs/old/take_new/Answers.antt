use Rattle.{desk_migration.proofs.Back.turned_pages, desk_store_pages.proofs.Writing.told_on, page_store.proofs.Stops.{passed_more, quiet_more}}
use Rattle.desk_store_opening.proofs.chunk_table.Writing.{after_reads, writes_as}
use Rattle.desk_migration.proofs.old.take_new.Goals as goal

pub returns-in_err-take_all : goal.returns-in_err-take_all
returns-in_err-take_all g c = told_on c.from_residual.result c.in_err-take_all.ensures c.from_residual.ensures.1 (λ why. tt)

pub returns-in_err-take_all-2 : goal.returns-in_err-take_all-2
returns-in_err-take_all-2 g c = told_on c.from_residual-in_err-take_all-2.result (after_reads _ c.in_ok-take_all.ensures.quiet c.in_err-take_all-2.ensures) c.from_residual-in_err-take_all-2.ensures.1 (λ why. tt)

pub returns : goal.returns
returns g c =
    let a = c.args.pages.now in
    let b = c.take_all.new.pages in
    let d = c.take_all-2.new.pages in
    let e = c.take_all-3.new.pages in
    let one = c.in_ok-take_all.ensures in
    let two = c.in_ok-take_all-2.ensures in
    writes_as c.take_all-3.result (after_reads c.take_all-3.result (quiet_more a b d one.quiet two.quiet) c.take_all-3.ensures)
    (λ _ three. (
      passed_more a d e (passed_more a b d one.put.0 two.put.0) three.0,
      turned_pages c.args.txn.now c.take_all.new.txn c.take_all-2.new.txn c.take_all-3.new.txn a b d e one.put.0 two.put.0 c.take_all-3.ensures.quiet one.put.1 two.put.1 three.1,
    )) (λ e why. tt)
