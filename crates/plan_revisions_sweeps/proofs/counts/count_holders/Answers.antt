use Rattle.{std.proofs.Common.{sym, ◌∙◌, arith}, btree_scan.proofs.Walked.{walk_all, walk_begins, walk_ends, walk_on}, page_store.proofs.Stops.passed_more}
use Rattle.{desk_store_pages.proofs.Looking.{fails_then, gathered, looked, not_looked}, plan_revisions_sweeps.proofs.Counted.{none_counted, one_counted, all_counted}}
use Rattle.plan_revisions_sweeps.proofs.{Named.holding_next, Scanned.{comes, not_come}}
use Rattle.plan_revisions_sweeps.proofs.counts.count_holders.Goals as goal

pub loop-taken-init : goal.loop-taken-init
loop-taken-init g c = record {
  begun = c.requires.begun;
  walked = walk_begins c.args.pages.now c.scan-scan.result c.scan-scan.ensures.fault c.scan-scan.ensures.rows (λ m. none_counted c.args.counts.now m c.requires.none);
}

pub returns-in-None : goal.returns-in-None
returns-in-None g c =
    looked (passed_more c.args.pages.now c.loop-taken.pages c.next.new.pages c.loop-taken.invariant.walked.passed (c.next.ensures.passed (sym c.fault.ensures ∙ c.in-None.is))) (λ honest m holds.
    let all = walk_all c.loop-taken.invariant.walked c.next.ensures.quiet c.next.new.self c.next.new.row c.next.result c.next.ensures.rows c.if-not-next.true (sym c.fault.ensures ∙ c.in-None.is) honest m holds in
    all_counted m all.rows c.loop-taken.counts c.loop-taken.taken (let less = c.loop-taken-test.true in omega arith) all.known all.whole)

pub returns-in-Some : goal.returns-in-Some
returns-in-Some g c = gathered _ (not_come c.loop-taken.invariant.walked c.next.ensures.quiet c.next.new.self c.in-Some.fault (sym c.fault.ensures ∙ c.in-Some.is) c.next.ensures.fault)

pub returns-in_err-count_holder : goal.returns-in_err-count_holder
returns-in_err-count_holder g c = fails_then (comes c.loop-taken.invariant.walked c.next.ensures.quiet c.next.new.self c.next.new.row c.next.result c.next.ensures.rows c.if-not-next.false c.next.ensures.going c.next.ensures.passed)
    c.from_residual.result c.in_err-count_holder.ensures c.from_residual.ensures.1 (λ m h is. holding_next m h.rows c.next.new.row is h.next)

pub loop-taken-preserved : goal.loop-taken-preserved
loop-taken-preserved g c = record {
  begun = c.loop-taken.invariant.begun ∙ sym c.next.ensures.quiet.count ∙ sym c.in_ok-count_holder.ensures.quiet.count;
  walked = walk_on c.loop-taken.invariant.walked c.next.ensures.quiet c.next.new.self c.next.new.row c.next.result c.next.ensures.rows c.if-not-next.false c.next.ensures.going c.next.ensures.passed c.count_holder.new.pages c.in_ok-count_holder.ensures.passed
      (λ honest m holds h. one_counted m h.rows c.next.new.row c.loop-taken.counts c.count_holder.new.counts c.loop-taken.taken h.known h.next (c.in_ok-count_holder.ensures.there honest m holds));
}

pub returns : goal.returns
returns g c = not_looked c.loop-taken.invariant.walked.passed.quiet (λ honest m holds is.
    walk_ends c.loop-taken.invariant.walked c.row_limit-taken-end.result c.row_limit-taken-end.ensures (let done = c.loop-taken-test.false in omega arith) honest m holds)
