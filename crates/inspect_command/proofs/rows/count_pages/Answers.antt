use Rattle.store_command.proofs.desk_store.Prepared.{IsBegun}
use Rattle.store_command.proofs.desk_store.Opened.{rows_begun}
use Rattle.inspect_command.proofs.Unread.{unread}
use Rattle.inspect_command.proofs.rows.count_pages.Goals as goal

pub returns-in-Ok-clause-counted : goal.returns-in-Ok-clause-counted
returns-in-Ok-clause-counted g c = λ honest m holds.
    let begin = c.begin-txn.ensures in
    let begun : IsBegun c.args.pages.now c.begin-txn.result = record { pages = begin.pages; none = begin.none; over_is = begin.over; root = begin.root c.requires; free = begin.free c.requires } in
    c.in-Ok.ensures.looks.there honest m (rows_begun c.args.pages.now c.count_rows.new.pages c.begin-txn.result m begun c.count_rows.ensures.looks.quiet honest holds)

pub returns-clause-unread : goal.returns-clause-unread
returns-clause-unread g c = λ honest m holds.
    let begin = c.begin-txn.ensures in
    let begun : IsBegun c.args.pages.now c.begin-txn.result = record { pages = begin.pages; none = begin.none; over_is = begin.over; root = begin.root c.requires; free = begin.free c.requires } in
    unread c.begin-txn.result c.args.pages.now c.count_rows.new.pages c.in-Err.field-0 c.in-Err.ensures.looks.err c.requires honest m (rows_begun c.args.pages.now c.count_rows.new.pages c.begin-txn.result m begun c.count_rows.ensures.looks.quiet honest holds)
