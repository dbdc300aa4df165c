use Rattle.{std.proofs.Common.{◌≤◌, ◌*◌, refl, arith, rules}, page_store.specs.claim.Transactions.{journal_of, txn_free}, geo_tables.proofs.Begun.short_of}
use Rattle.geo_tables.proofs.starts.start.Goals as goal

pub returns-then-not-has_room : goal.returns-then-not-has_room
returns-then-not-has_room g c = search (rules, arith, c.in_ok-txn.ensures.working, short_of, c.args.pages.now, c.in_ok-txn.txn, c.in_ok-txn.ensures, c.if-not-has_room.ensures.1)

pub returns : goal.returns
returns g c =
    let room = c.if-not-has_room.ensures.0 refl in
    let journal : 13 * c.args.rows ≤ journal_of c.args.pages.now = room.1 in
    let free : 13 * c.args.rows ≤ txn_free c.in_ok-txn.txn = room.0 in
    search rules
