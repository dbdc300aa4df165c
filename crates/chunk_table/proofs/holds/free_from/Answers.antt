use Rattle.{std.{specs.{FinMap.entries, Prelude.IfSome}, proofs.Common.{◌≡◌, List, [], ℕ, sym, subst, ◌∙◌, rules}}, btree_scan.specs.{Prefixes.under, Scanning.{CanScan, ScanErr}}}
use Rattle.{btree_scan.proofs.Refused.scan_refused, chunk_table.proofs.Free.none_held, desk_store_pages.proofs.{Looking.{looked, not_looked}, Reading.get_unread}}
use Rattle.page_store.proofs.Stops.{passed_none}
use Rattle.chunk_table.proofs.holds.free_from.Goals as goal

pub returns-in-Some : goal.returns-in-Some
returns-in-Some g c =
    let t = c.args.txn.now in
    let a = c.args.pages.now in
    let b = c.advance-found.new.pages in
    let can = CanScan c.scan-scan.result in
    let why = subst (λ f. IfSome f (λ e. ScanErr can t a b e)) (sym c.fault.ensures ∙ c.in-Some.is) (c.advance-found.ensures.fault c.scan-scan.ensures.fault) in
    not_looked c.advance-found.ensures.quiet (get_unread (λ m. Unit {0}) t a b c.in-Some.fault
    (scan_refused can t a a b (passed_none a) c.advance-found.ensures.quiet (λ honest m holds. (under c.as_slice.result.now (entries m), c.scan-scan.ensures.rows m)) c.in-Some.fault why))

pub returns-then-found : goal.returns-then-found
returns-then-found g c = looked (c.advance-found.ensures.passed (sym c.fault.ensures ∙ c.in-None.is)) (λ honest m holds. tt)

pub returns-else-found : goal.returns-else-found
returns-else-found g c = looked (c.advance-found.ensures.passed (sym c.fault.ensures ∙ c.in-None.is)) (λ honest m holds.
    let all = entries m in
    let next = c.advance-found.ensures.rows honest m (under c.as_slice.result.now all) holds (c.scan-scan.ensures.rows m) in
    let none : under c.as_slice.result.now all ≡ [] = search rules in
    none_held m c.args.plan (subst (λ (p : List ℕ). under p all ≡ []) (c.as_slice.ensures.bytes ∙ c.holdings-prefix.ensures) none))
