use Rattle.{std.{specs.{FinMap.entries, Prelude.None}, proofs.Common.{◌≡◌, [], sym, subst, ◌∙◌}}, btree_scan.specs.{Prefixes.under, Scanning.{IsNextRow, fault_in}}}
use Rattle.{btree_scan.proofs.{RowsFound.{found_among, next_under}, Walked.walk_begins}, desk_store_pages.proofs.Looking.looked, plan_revisions_sweeps.proofs.Scanned.not_come}
use Rattle.plan_revisions_sweeps.proofs.firsts.first_under.Goals as goal

pub returns-then-next : goal.returns-then-next
returns-then-next g c = looked (c.next.ensures.passed ((c.next.ensures.going c.if-next.true).1 ∙ c.scan-scan.ensures.fault)) (λ honest m holds.
    let prefix = c.args.prefix.now in
    let next = subst (λ b. IsNextRow b c.next.new.self c.next.new.row (entries m) (under prefix (entries m))) c.if-next.true (c.next.ensures.rows honest m (under prefix (entries m)) holds (c.scan-scan.ensures.rows m)) in
    let row = next_under m prefix [] (c.next.new.row.key, c.next.new.row.value) next.0 next.1 in
    record { there = row.there; under = row.under })

pub returns-in-None : goal.returns-in-None
returns-in-None g c =
    let prefix = c.args.prefix.now in
    let none : fault_in c.next.new.self ≡ None = sym c.fault.ensures ∙ c.in-None.is in
    looked (c.next.ensures.passed none) (λ honest m holds.
    let next = subst (λ b. IsNextRow b c.next.new.self c.next.new.row (entries m) (under prefix (entries m))) c.if-next.false (c.next.ensures.rows honest m (under prefix (entries m)) holds (c.scan-scan.ensures.rows m)) in
    λ key on. found_among m prefix [] key on (next none))

pub returns-in-Some : goal.returns-in-Some
returns-in-Some g c = not_come (walk_begins {Known = λ m rows. Unit {0}} {t = c.args.txn.now} c.args.pages.now c.scan-scan.result c.scan-scan.ensures.fault c.scan-scan.ensures.rows (λ m. tt)) c.next.ensures.quiet c.next.new.self c.in-Some.fault (sym c.fault.ensures ∙ c.in-Some.is) c.next.ensures.fault
