use Rattle.{page_btree_puts.{specs.Fingers.{StandsIn, Stand}, proofs.Fits.{get_fewer_err, get_any_err}}, page_btree_gets.proofs.Outcomes.reads_as}
use Rattle.page_btree_puts.proofs.finger.get_with.Goals as goal

pub returns-then-has-clause-get : goal.returns-then-has-clause-get
returns-then-has-clause-get g c = λ honest m holds stand. c.get_by.ensures.get honest m holds stand.0

pub returns-then-has-clause-reading : goal.returns-then-has-clause-reading
returns-then-has-clause-reading g c =
    reads_as c.get_by.ensures.reading (get_fewer_err (λ S. StandsIn c.args.txn.now S c.args.fingers.now.first) (λ S. Stand c.args.txn.now S c.args.fingers.now) c.args.txn.now c.args.pages.now c.get_by.new.pages (λ stand. stand.0))

pub returns-then-has-2-clause-get : goal.returns-then-has-2-clause-get
returns-then-has-2-clause-get g c = λ honest m holds stand. c.get_by-then-has-2.ensures.get honest m holds stand.1

pub returns-then-has-2-clause-reading : goal.returns-then-has-2-clause-reading
returns-then-has-2-clause-reading g c =
    reads_as c.get_by-then-has-2.ensures.reading (get_fewer_err (λ S. StandsIn c.args.txn.now S c.args.fingers.now.second) (λ S. Stand c.args.txn.now S c.args.fingers.now) c.args.txn.now c.args.pages.now c.get_by-then-has-2.new.pages (λ stand. stand.1))

pub returns-clause-get : goal.returns-clause-get
returns-clause-get g c = λ honest m holds stand. c.get.ensures.get honest m holds

pub returns-clause-reading : goal.returns-clause-reading
returns-clause-reading g c = reads_as c.get.ensures.reading (get_any_err (λ S. Stand c.args.txn.now S c.args.fingers.now) c.args.txn.now c.args.pages.now c.get.new.pages)
