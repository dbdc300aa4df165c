use Rattle.{std.proofs.Common.{refl, sym, ◌∙◌, arith, rules}, plan_revisions_sweeps.specs.Checks.IsEntryTold, btree_scan.proofs.RowsFound.all_more}
use Rattle.{btree_scan.proofs.Walked.{walk_all, walk_begins, walk_ends, walk_on}, desk_store_pages.proofs.Looking.{looked, not_looked, refuses}}
use Rattle.{page_store.proofs.Stops.{passed_more, passed_none}, plan_revisions_sweeps.proofs.{Scanned.{comes, not_come}, Told.{all_told, not_told}}}
use Rattle.plan_revisions_sweeps.proofs.counts.check_counts.Goals as goal

pub loop-taken-init : goal.loop-taken-init
loop-taken-init g c = search (rules, arith, c.requires.begun, walk_begins, c.args.pages.now, c.scan-scan.result, c.scan-scan.ensures.fault, c.scan-scan.ensures.rows)

pub returns-in-None : goal.returns-in-None
returns-in-None g c = looked (passed_more c.args.pages.now c.loop-taken.pages c.next.new.pages c.loop-taken.invariant.walked.passed (c.next.ensures.passed (sym c.fault.ensures ∙ c.in-None.is))) (λ honest m holds.
    let all = walk_all c.loop-taken.invariant.walked c.next.ensures.quiet c.next.new.self c.next.new.row c.next.result c.next.ensures.rows c.if-not-next.true (sym c.fault.ensures ∙ c.in-None.is) honest m holds in
    all_told c.args.counts.now m all.rows all.whole all.known)

pub returns-in-Some : goal.returns-in-Some
returns-in-Some g c = not_come c.loop-taken.invariant.walked c.next.ensures.quiet c.next.new.self c.in-Some.fault (sym c.fault.ensures ∙ c.in-Some.is) c.next.ensures.fault

pub returns-then-not-is_told : goal.returns-then-not-is_told
returns-then-not-is_told g c = refuses (comes c.loop-taken.invariant.walked c.next.ensures.quiet c.next.new.self c.next.new.row c.next.result c.next.ensures.rows c.if-not-next.false c.next.ensures.going c.next.ensures.passed)
    (λ m h has. not_told c.args.counts.now m h.rows (c.next.new.row.key, c.next.new.row.value) has h.next (c.if-not-is_told.ensures.no refl))

pub loop-taken-preserved : goal.loop-taken-preserved
loop-taken-preserved g c = record {
  begun = c.loop-taken.invariant.begun ∙ sym c.next.ensures.quiet.count;
  walked = walk_on c.loop-taken.invariant.walked c.next.ensures.quiet c.next.new.self c.next.new.row c.next.result c.next.ensures.rows c.if-not-next.false c.next.ensures.going c.next.ensures.passed c.next.new.pages (passed_none c.next.new.pages)
      (λ honest m holds h. all_more (IsEntryTold c.args.counts.now) h.rows (c.next.new.row.key, c.next.new.row.value) (c.if-not-is_told.ensures.yes refl) h.known);
}

pub returns : goal.returns
returns g c = not_looked c.loop-taken.invariant.walked.passed.quiet (λ honest m holds is.
    walk_ends c.loop-taken.invariant.walked c.row_limit-taken-end.result c.row_limit-taken-end.ensures (let done = c.loop-taken-test.false in omega arith) honest m holds)
