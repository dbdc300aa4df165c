use Rattle.{desk_store_rows.specs.claim.{Keys.holding, Rows.Lacks}, page_btree.specs.puts.Fingers.Stand, page_store.specs.claim.Transactions.stored}
use Rattle.{chunk_table.proofs.{HeldChunks.{held_unheld, not_held_of}, Writing.writes_as}, desk_store_pages.proofs.Rising.fresh_stand}
use Rattle.chunk_table.proofs.holds.hold_unheld.Goals as goal

pub returns : goal.returns
returns g c =
    let plan = c.args.plan in
    let number = c.args.number in
    let t = c.args.txn.now in
    let a = c.args.pages.now in
    let f = c.none-fingers.result in
    let none = c.none-fingers.ensures in
    writes_as c.hold_unheld_with.result c.hold_unheld_with.ensures (λ _ did. held_unheld plan number none.first none.second c.requires.unheld did)
    (not_held_of plan number (λ m. Lacks m (holding plan number) × Stand t (stored a) f) t a c.hold_unheld_with.new.pages (λ m. Unit {0})
    (λ honest m holds is. (c.requires.unheld (c.hold_unheld_with.ensures.quiet.honest honest) m holds, fresh_stand t (stored a) f none.first none.second)))
