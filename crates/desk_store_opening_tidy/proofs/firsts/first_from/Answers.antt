use Rattle.{std.{specs.{FinMap.entries, Prelude.{Some, IfSome}}, proofs.Common.{◌≡◌, sym, subst, ◌∙◌}}, btree_scan.specs.Scanning.{fault_in, CanScan, ScanErr}}
use Rattle.{page_btree.specs.node.Places.entries_from, btree_scan.proofs.Refused.scan_refused, desk_store_opening_tidy.proofs.FirstRows.is_first}
use Rattle.{desk_store_pages.proofs.{Looking.{looked, not_looked}, Reading.get_unread}, page_store.proofs.Stops.passed_none}
use Rattle.desk_store_opening_tidy.proofs.firsts.first_from.Goals as goal

pub returns-in-Some : goal.returns-in-Some
returns-in-Some g c =
    let t = c.args.txn.now in
    let a = c.args.pages.now in
    let b = c.next-found.new.pages in
    let told : fault_in c.next-found.new.self ≡ Some c.in-Some.fault = sym c.fault.ensures ∙ c.in-Some.is in
    let why = subst (λ f. IfSome f (λ e. ScanErr (CanScan c.from_key-scan.result) t a b e)) told (c.next-found.ensures.fault c.from_key-scan.ensures.fault) in
    not_looked c.next-found.ensures.quiet (get_unread (λ m. Unit {0}) t a b c.in-Some.fault
    (scan_refused (CanScan c.from_key-scan.result) t a a b (passed_none a) c.next-found.ensures.quiet (λ honest m holds. (entries_from c.args.key.now (entries m), c.from_key-scan.ensures.rows m)) c.in-Some.fault why))

pub returns-in-None : goal.returns-in-None
returns-in-None g c = looked (c.next-found.ensures.passed (sym c.fault.ensures ∙ c.in-None.is)) (λ honest m holds.
    is_first c.next-found.result c.next-found.new.self c.next-found.new.row c.args.key.now m (sym c.fault.ensures ∙ c.in-None.is)
    (c.next-found.ensures.rows honest m (entries_from c.args.key.now (entries m)) holds (c.from_key-scan.ensures.rows m)))
