use Rattle.{chunk_table.specs.Holding.HasHolderCount, desk_store_rows.specs.claim.{Keys.holding, Rows.{KeyMap, Lacks}}, page_btree.specs.puts.Fingers.Stand}
use Rattle.{page_store.specs.claim.Transactions.stored, chunk_table.proofs.HeldChunks.{held_then, too_many, holding_not_put, not_told}}
use Rattle.chunk_table.proofs.Writing.{after_reads, only_read, unread, writes_as}
use Rattle.chunk_table.proofs.holds.hold_unheld_with.Goals as goal

pub returns-in_err-count : goal.returns-in_err-count
returns-in_err-count g c =
    let number = c.args.number in
    let t = c.args.txn.now in
    let a = c.args.pages.now in
    let e = c.in_err-count.field-0.0 in
    let looks = c.in_err-count.ensures.looks in
    let stand = Stand t (stored a) c.args.fingers.now in
    let may : KeyMap → Type 0 = λ m. Lacks m (holding c.args.plan number) × stand in
    let has : KeyMap → Type 0 = λ m. HasHolderCount number m × stand in
    unread c.from_residual.result e c.requires.begun looks.quiet c.from_residual.ensures.1
    (not_told c.args.plan number may t a c.holder_count_with.new.pages has (λ m limit is can fits. let k = can.counted_by_holders number fits in ((k.count, k.fits, k.row), is.1)) e looks.err)

pub returns-then-count : goal.returns-then-count
returns-then-count g c = search (c.in_ok-count.ensures.looks, only_read, c.requires.begun, too_many, c.args.plan)

pub returns : goal.returns
returns g c =
    let looks = c.in_ok-count.ensures.looks in
    let t = c.args.txn.now in
    let a = c.args.pages.now in
    let b = c.holder_count_with.new.pages in
    writes_as c.put_holding.result (after_reads c.put_holding.result looks.quiet c.put_holding.ensures)
    (λ _ put. held_then c.args.plan c.args.number c.in_ok-count.count c.args.fingers.now t a b looks.passed looks.there c.in_ok-count.ensures.fits put)
    (λ e why. holding_not_put c.args.plan c.args.number c.in_ok-count.count c.args.fingers.now t a b looks.passed looks.there c.in_ok-count.ensures.fits c.put_holding.new.pages e why.0 why.1)
