use Rattle.{std.{specs.Prelude.Some, proofs.Common.{[], refl, sym, ap, ◌∙◌, arith, rules}}, btree_scan.proofs.RowsFound.{all_found, all_more, found_among}}
use Rattle.{btree_scan.proofs.Walked.{walk_all, walk_begins, walk_ends, walk_on}, desk_store_pages.proofs.Looking.{finds, looked, not_looked}}
use Rattle.{page_store.proofs.Stops.{passed_more, passed_none}, plan_revisions_sweeps.proofs.Scanned.{IsPassed, comes, not_come}}
use Rattle.plan_revisions_sweeps.proofs.firsts.first_mark.Goals as goal

pub loop-taken-init : goal.loop-taken-init
loop-taken-init g c = search (rules, arith, c.requires.begun, walk_begins, c.args.pages.now, c.scan-scan.result, c.scan-scan.ensures.fault, c.scan-scan.ensures.rows)

pub returns-in-None : goal.returns-in-None
returns-in-None g c = looked (passed_more c.args.pages.now c.loop-taken.pages c.next.new.pages c.loop-taken.invariant.walked.passed (c.next.ensures.passed (sym c.fault.ensures ∙ c.in-None.is))) (λ honest m holds key on apart is.
    let all = walk_all c.loop-taken.invariant.walked c.next.ensures.quiet c.next.new.self c.next.new.row c.next.result c.next.ensures.rows c.if-not-next.true (sym c.fault.ensures ∙ c.in-None.is) honest m holds in
    apart (all_found (IsPassed c.args.spared.now) key [] all.rows all.known
    (sym (found_among m c.args.prefix.now all.rows key on all.whole) ∙ is) refl))

pub returns-in-Some : goal.returns-in-Some
returns-in-Some g c = not_come c.loop-taken.invariant.walked c.next.ensures.quiet c.next.new.self c.in-Some.fault (sym c.fault.ensures ∙ c.in-Some.is) c.next.ensures.fault

pub returns-then-is_mark : goal.returns-then-is_mark
returns-then-is_mark g c = finds (comes c.loop-taken.invariant.walked c.next.ensures.quiet c.next.new.self c.next.new.row c.next.result c.next.ensures.rows c.if-not-next.false c.next.ensures.going c.next.ensures.passed)
    (λ m h. record { there = h.next.there ∙ ap Some (c.if-is_mark.ensures.empty refl); under = h.next.under; apart = c.if-is_mark.ensures.apart refl })

pub loop-taken-preserved : goal.loop-taken-preserved
loop-taken-preserved g c = record {
  begun = c.loop-taken.invariant.begun ∙ sym c.next.ensures.quiet.count;
  walked = walk_on c.loop-taken.invariant.walked c.next.ensures.quiet c.next.new.self c.next.new.row c.next.result c.next.ensures.rows c.if-not-next.false c.next.ensures.going c.next.ensures.passed c.next.new.pages (passed_none c.next.new.pages)
      (λ honest m holds h. all_more (IsPassed c.args.spared.now) h.rows (c.next.new.row.key, c.next.new.row.value) (c.if-is_mark.ensures.no refl) h.known);
}

pub returns : goal.returns
returns g c = not_looked c.loop-taken.invariant.walked.passed.quiet (λ honest m holds is.
    walk_ends c.loop-taken.invariant.walked c.row_limit-taken-end.result c.row_limit-taken-end.ensures (let done = c.loop-taken-test.false in omega arith) honest m holds)
