use Rattle.{page_store.specs.claim.Transactions.stored, page_btree_gets.proofs.Outcomes.{map_ok, reads_as}, page_btree_puts.proofs.Plain.{none_stands, plain_err}}
use Rattle.page_btree_puts.proofs.fresh.put.Goals as goal

pub returns-clause-reading : goal.returns-clause-reading
returns-clause-reading g c = reads_as c.put_with.ensures.reading (plain_err c.none-finger.result c.args.txn.now c.args.pages.now c.put_with.new.pages c.none-finger.ensures)

pub returns-clause-put : goal.returns-clause-put
returns-clause-put g c = λ honest m holds.
    map_ok c.put_with.result _ _ (λ had done. (done.reads, done.had_is))
    (c.put_with.ensures.put honest m holds (none_stands c.args.txn.now (stored c.args.pages.now) c.none-finger.result c.none-finger.ensures))

pub returns-clause-rises : goal.returns-clause-rises
returns-clause-rises g c = λ honest m holds.
    c.put_with.ensures.rises honest m holds (none_stands c.args.txn.now (stored c.args.pages.now) c.none-finger.result c.none-finger.ensures)
