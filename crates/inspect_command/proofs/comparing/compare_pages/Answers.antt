use Rattle.inspect_command.proofs.Compared.{pages_compared, pages_unread}
use Rattle.store_command.proofs.desk_store.Prepared.{IsBegun}
use Rattle.inspect_command.proofs.comparing.compare_pages.Goals as goal

pub returns-in-Ok : goal.returns-in-Ok
returns-in-Ok g c =
    let begin = c.begin-txn.ensures in
    let a = c.args.pages.now in
    let begun : IsBegun a c.begin-txn.result = record { pages = begin.pages; none = begin.none; over_is = begin.over; root = begin.root c.requires; free = begin.free c.requires } in
    pages_compared a c.geography.new.pages c.begin-txn.result c.args.said.now c.in-Ok.stored _ c.first_difference.result begun c.geography.ensures.quiet c.as_ref.ensures.value c.in-Ok.ensures.there c.first_difference.ensures

pub returns : goal.returns
returns g c =
    let begin = c.begin-txn.ensures in
    let a = c.args.pages.now in
    let begun : IsBegun a c.begin-txn.result = record { pages = begin.pages; none = begin.none; over_is = begin.over; root = begin.root c.requires; free = begin.free c.requires } in
    pages_unread a c.geography.new.pages c.begin-txn.result c.args.said.now c.in-Err.e c.fault_of.result c.fault_of.ensures c.requires begun c.geography.ensures.quiet c.in-Err.ensures.err
