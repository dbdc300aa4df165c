use Rattle.{std.{specs.{FinMap.{entries, get}, Prelude.Some}, proofs.Common.{◌≡◌, ◌∷◌, ℕ, List, [], sym, ap, subst, ◌∙◌}}, btree_scan.specs.Prefixes.under}
use Rattle.{btree_scan.specs.Scanning.{fault_in, CanScan}, desk_store_opening.specs.Opening.HasNoPlans, desk_store_rows.specs.claim.Keys.plans_prefix}
use Rattle.{btree_scan.proofs.Refused.scan_refused, desk_store_opening.proofs.Parts.{found_among, next_plan}, desk_store_pages.proofs.Looking.{looked, not_looked}}
use Rattle.{desk_store_pages.proofs.Reading.get_unread, desk_store_rows.proofs.OneGeography.no_value, page_store.proofs.Stops.passed_none}
use Rattle.desk_store_opening.proofs.none.refuse_plans.Goals as goal

pub returns-then-next : goal.returns-then-next
returns-then-next g c = not_looked c.next.ensures.quiet (λ honest m holds none.
    let prefix : c.as_slice.result.now ≡ plans_prefix = c.as_slice.ensures.bytes ∙ c.plans-prefix.ensures in
    let next = rw c.if-next.true at (c.next.ensures.rows honest m (under c.as_slice.result.now (entries m)) holds (c.scan-scan.ensures.rows m)) in
    let at = next_plan m [] (c.next.new.row.key, c.next.new.row.value) next.0 (subst (λ (p : List ℕ). under p (entries m) ≡ (c.next.new.row.key, c.next.new.row.value) ∷ next.0) prefix next.1) in
    no_value c.next.new.row.value (sym at.there ∙ ap (get m) at.key ∙ none at.name))

pub returns-in-None : goal.returns-in-None
returns-in-None g c = looked (c.next.ensures.passed (sym c.fault.ensures ∙ c.in-None.is)) (λ honest m holds.
    let prefix : c.as_slice.result.now ≡ plans_prefix = c.as_slice.ensures.bytes ∙ c.plans-prefix.ensures in
    let next = rw c.if-next.false at (c.next.ensures.rows honest m (under c.as_slice.result.now (entries m)) holds (c.scan-scan.ensures.rows m)) in
    λ name. sym (found_among m [] name (subst (λ (p : List ℕ). under p (entries m) ≡ []) prefix (next (sym c.fault.ensures ∙ c.in-None.is)))))

pub returns-in-Some : goal.returns-in-Some
returns-in-Some g c =
    let t = c.args.txn.now in
    let a = c.args.pages.now in
    let b = c.next.new.pages in
    let told : fault_in c.next.new.self ≡ Some c.in-Some.fault = sym c.fault.ensures ∙ c.in-Some.is in
    not_looked c.next.ensures.quiet (get_unread HasNoPlans t a b c.in-Some.fault
    (scan_refused (CanScan c.scan-scan.result) t a a b (passed_none a) c.next.ensures.quiet (λ honest m holds. (under c.as_slice.result.now (entries m), c.scan-scan.ensures.rows m))
    c.in-Some.fault (rw told at (c.next.ensures.fault c.scan-scan.ensures.fault))))
