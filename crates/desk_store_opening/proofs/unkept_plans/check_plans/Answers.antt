use Rattle.{std.{specs.FinMap.entries, proofs.Common.{ℕ, List, Ok, sym, subst, ◌∙◌, arith}}, btree_scan.specs.{Prefixes.under, Scanning.Rest}, page_store.proofs.Stops.passed_more}
use Rattle.{desk_store_opening.specs.Checking.IsNever, desk_store_pages.{specs.Looking.Gathers, proofs.Reading.get_unread}, desk_store_rows.specs.claim.Keys.plans_prefix}
use Rattle.btree_scan.proofs.Walked.{HasNext, walk_all, walk_begins, walk_next, walk_on, walk_passed, walk_quiet, walk_refused}
use Rattle.desk_store_opening.proofs.{PlanNumbers.{all_apart, are_counts, none_noted}, Told.{AreTold, all_told, none_told, one_more_told}}
use Rattle.desk_store_pages.proofs.Looking.{fails_then, looked, may_lack, not_looked}
use Rattle.desk_store_opening.proofs.unkept_plans.check_plans.Goals as goal

pub loop-taken-init : goal.loop-taken-init
loop-taken-init g c = record {
  begun = c.requires.begun;
  limit = omega arith;
  walked = walk_begins c.args.pages.now c.scan-scan.result c.scan-scan.ensures.fault
      (λ m. subst (λ (prefix : List ℕ). Rest c.scan-scan.result (entries m) (under prefix (entries m))) (c.as_slice.ensures.bytes ∙ c.plans-prefix.ensures) (c.scan-scan.ensures.rows m))
      (λ m. none_told c.args.ranges.now c.args.counts.now m (none_noted c.args.counts.now c.requires.none));
}

pub returns-in-None : goal.returns-in-None
returns-in-None g c =
    let walked = c.loop-taken.invariant.walked in
    let none = sym c.fault.ensures ∙ c.in-None.is in
    looked (passed_more c.args.pages.now c.loop-taken.pages c.next.new.pages walked.passed (c.next.ensures.passed none)) (λ honest m holds.
    let all = walk_all walked c.next.ensures.quiet c.next.new.self c.next.new.row c.next.result c.next.ensures.rows c.if-not-next.true none honest m holds in (
      all_apart m all.rows c.loop-taken.counts all.whole all.known.noted,
      are_counts m all.rows c.loop-taken.counts all.whole all.known.noted,
      all_told c.args.ranges.now c.loop-taken.taken c.loop-taken.counts m all.rows all.whole c.loop-taken.invariant.limit all.known,
    ))

pub returns-in-Some : goal.returns-in-Some
returns-in-Some g c =
    let walked = c.loop-taken.invariant.walked in
    not_looked (walk_quiet walked c.next.ensures.quiet) (may_lack IsNever c.args.txn.now c.args.pages.now c.next.new.pages c.in-Some.fault (get_unread IsNever c.args.txn.now c.args.pages.now c.next.new.pages c.in-Some.fault
    (walk_refused walked c.next.ensures.quiet c.next.new.self c.in-Some.fault (sym c.fault.ensures ∙ c.in-Some.is) c.next.ensures.fault)))

pub returns-then-taken : goal.returns-then-taken
returns-then-taken g c = not_looked (walk_quiet c.loop-taken.invariant.walked c.next.ensures.quiet) (λ honest m holds is. is)

pub returns-in_err-check_row : goal.returns-in_err-check_row
returns-in_err-check_row g c =
    let row = c.next.new.row in
    let walked = c.loop-taken.invariant.walked in
    let taken : Gathers (λ m u. HasNext plans_prefix (AreTold c.args.ranges.now c.loop-taken.taken c.loop-taken.counts) m row) IsNever c.args.txn.now c.args.pages.now c.next.new.pages (Ok (tt {0})) =
    looked (walk_passed walked c.next.ensures.quiet c.next.new.self row c.next.result c.next.ensures.rows c.if-not-next.false c.next.ensures.going c.next.ensures.passed)
    (λ honest m holds. walk_next walked c.next.ensures.quiet c.next.new.self row c.next.result c.next.ensures.rows c.if-not-next.false honest m holds) in
    fails_then taken c.from_residual.result c.in_err-check_row.ensures.seen c.from_residual.ensures.1 (λ m h is. is)

pub loop-taken-preserved : goal.loop-taken-preserved
loop-taken-preserved g c =
    let row = c.next.new.row in
    let now = c.in_ok-check_row.ensures in
    let cut = c.requires.cut in
    record {
      begun = c.loop-taken.invariant.begun ∙ sym c.next.ensures.quiet.count ∙ sym now.seen.quiet.count;
      limit = let few = c.if-taken.false in omega arith;
      walked = walk_on c.loop-taken.invariant.walked c.next.ensures.quiet c.next.new.self row c.next.result c.next.ensures.rows c.if-not-next.false c.next.ensures.going c.next.ensures.passed c.check_row.new.pages now.seen.passed
          (λ honest m holds h.
          let seen = now.seen.there honest m holds in
          one_more_told c.lists_are_cut.ensures cut.0 c.args.ranges.now cut.1 c.loop-taken.taken c.loop-taken.counts c.check_row.new.counts m h.rows row h.after h.whole h.known now.noted seen.0 seen.1);
    }
