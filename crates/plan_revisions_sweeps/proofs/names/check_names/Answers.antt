use Rattle.{std.{specs.Prelude.All, proofs.{Common.{sym, subst, ◌∙◌, arith}, lemmas.List.Elements.All-nil}}, plan_revisions_sweeps.specs.Checks.IsEntryNamed}
use Rattle.{plan_revisions_sweeps.specs.claim.Checks.IsHeldOrGone, btree_scan.proofs.{RowsFound.all_more, Walked.{walk_all, walk_begins, walk_ends, walk_on}}}
use Rattle.{desk_store_pages.proofs.Looking.{fails_then, gathered, looked, not_looked}, page_store.proofs.Stops.passed_more, plan_revisions_sweeps.proofs.Scanned.{comes, not_come}}
use Rattle.plan_revisions_sweeps.proofs.Named.{part_next, all_named}
use Rattle.plan_revisions_sweeps.proofs.names.check_names.Goals as goal

pub loop-taken-init : goal.loop-taken-init
loop-taken-init g c = record {
  begun = c.requires.begun;
  walked = walk_begins c.args.pages.now c.scan-scan.result c.scan-scan.ensures.fault c.scan-scan.ensures.rows (λ m. (tt, subst (All (IsHeldOrGone m 0)) (sym c.new-known.ensures.items) (All-nil (IsHeldOrGone m 0))));
}

pub returns-in-None : goal.returns-in-None
returns-in-None g c = looked (passed_more c.args.pages.now c.loop-taken.pages c.next.new.pages c.loop-taken.invariant.walked.passed (c.next.ensures.passed (sym c.fault.ensures ∙ c.in-None.is))) (λ honest m holds.
    let all = walk_all c.loop-taken.invariant.walked c.next.ensures.quiet c.next.new.self c.next.new.row c.next.result c.next.ensures.rows c.if-not-next.true (sym c.fault.ensures ∙ c.in-None.is) honest m holds in
    all_named m all.rows all.whole all.known.0)

pub returns-in-Some : goal.returns-in-Some
returns-in-Some g c = gathered _ (not_come c.loop-taken.invariant.walked c.next.ensures.quiet c.next.new.self c.in-Some.fault (sym c.fault.ensures ∙ c.in-Some.is) c.next.ensures.fault)

pub returns-in_err-check_part : goal.returns-in_err-check_part
returns-in_err-check_part g c = fails_then (comes c.loop-taken.invariant.walked c.next.ensures.quiet c.next.new.self c.next.new.row c.next.result c.next.ensures.rows c.if-not-next.false c.next.ensures.going c.next.ensures.passed)
    c.from_residual.result c.in_err-check_part.ensures c.from_residual.ensures.1 (λ m h is. part_next m h.rows c.next.new.row is h.next)

pub loop-taken-preserved : goal.loop-taken-preserved
loop-taken-preserved g c = record {
  begun = c.loop-taken.invariant.begun ∙ sym c.next.ensures.quiet.count ∙ sym c.in_ok-check_part.ensures.quiet.count;
  walked = walk_on c.loop-taken.invariant.walked c.next.ensures.quiet c.next.new.self c.next.new.row c.next.result c.next.ensures.rows c.if-not-next.false c.next.ensures.going c.next.ensures.passed c.check_part.new.pages c.in_ok-check_part.ensures.passed
      (λ honest m holds h.
      let both = c.in_ok-check_part.ensures.there honest m holds h.known.1 in
      (all_more (IsEntryNamed m) h.rows (c.next.new.row.key, c.next.new.row.value) both.0 h.known.0, both.1));
}

pub returns : goal.returns
returns g c = not_looked c.loop-taken.invariant.walked.passed.quiet (λ honest m holds is.
    walk_ends c.loop-taken.invariant.walked c.row_limit-taken-end.result c.row_limit-taken-end.ensures (let done = c.loop-taken-test.false in omega arith) honest m holds)
