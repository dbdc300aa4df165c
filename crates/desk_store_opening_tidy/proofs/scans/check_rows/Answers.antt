use Rattle.{std.proofs.Common.{refl, sym, ◌∙◌, arith, rules}, desk_store_opening_tidy.specs.{Numbers.IsDue, Rows.IsRow}, page_btree.specs.node.claim.Entries.Entry}
use Rattle.btree_scan.proofs.{RowsFound.all_more, Walked.{walk_all, walk_begins, walk_ends, walk_next, walk_on, walk_passed, walk_quiet, walk_refused}}
use Rattle.{desk_store_opening_tidy.proofs.{Kept.no_due, Scanned.{IsEntryBelow, all_sound, past_sound}}, desk_store_pages.proofs.{Looking.{looked, not_looked}, Reading.get_unread}}
use Rattle.page_store.proofs.Stops.{passed_more, passed_none}
use Rattle.desk_store_opening_tidy.proofs.scans.check_rows.Goals as goal

pub loop-taken-init : goal.loop-taken-init
loop-taken-init g c = search (rules, arith, c.requires.begun, walk_begins, c.args.pages.now, c.scan-scan.result, c.scan-scan.ensures.fault, c.scan-scan.ensures.rows)

pub returns-in-None : goal.returns-in-None
returns-in-None g c = looked (passed_more c.args.pages.now c.loop-taken.pages c.next.new.pages c.loop-taken.invariant.walked.passed (c.next.ensures.passed (sym c.fault.ensures ∙ c.in-None.is))) (λ honest m holds.
    let all = walk_all c.loop-taken.invariant.walked c.next.ensures.quiet c.next.new.self c.next.new.row c.next.result c.next.ensures.rows c.if-not-next.true (sym c.fault.ensures ∙ c.in-None.is) honest m holds in
    all_sound c.args.next m all.rows all.whole all.known.0 all.known.1)

pub returns-in-Some : goal.returns-in-Some
returns-in-Some g c = not_looked (walk_quiet c.loop-taken.invariant.walked c.next.ensures.quiet) (get_unread (IsDue c.args.next) c.args.txn.now c.args.pages.now c.next.new.pages c.in-Some.fault
    (walk_refused c.loop-taken.invariant.walked c.next.ensures.quiet c.next.new.self c.in-Some.fault (sym c.fault.ensures ∙ c.in-Some.is) c.next.ensures.fault))

pub returns-then-is_past : goal.returns-then-is_past
returns-then-is_past g c = looked (walk_passed c.loop-taken.invariant.walked c.next.ensures.quiet c.next.new.self c.next.new.row c.next.result c.next.ensures.rows c.if-not-next.false c.next.ensures.going c.next.ensures.passed) (λ honest m holds.
    let h = walk_next c.loop-taken.invariant.walked c.next.ensures.quiet c.next.new.self c.next.new.row c.next.result c.next.ensures.rows c.if-not-next.false honest m holds in
    past_sound c.args.next m h.rows (c.next.new.row.key, c.next.new.row.value) h.after h.whole h.known.0 h.known.1 (c.if-is_past.ensures.yes refl))

pub returns-then-not-is_sound : goal.returns-then-not-is_sound
returns-then-not-is_sound g c = not_looked (walk_quiet c.loop-taken.invariant.walked c.next.ensures.quiet) (λ honest m holds due.
    let h = walk_next c.loop-taken.invariant.walked c.next.ensures.quiet c.next.new.self c.next.new.row c.next.result c.next.ensures.rows c.if-not-next.false honest m holds in
    no_due c.args.next m c.next.new.row.key c.next.new.row.value due h.next.there (c.if-not-is_sound.ensures.none refl (c.if-is_past.ensures.no refl)))

pub loop-taken-preserved : goal.loop-taken-preserved
loop-taken-preserved g c = record {
  begun = c.loop-taken.invariant.begun ∙ sym c.next.ensures.quiet.count;
  walked = walk_on c.loop-taken.invariant.walked c.next.ensures.quiet c.next.new.self c.next.new.row c.next.result c.next.ensures.rows c.if-not-next.false c.next.ensures.going c.next.ensures.passed c.next.new.pages (passed_none c.next.new.pages)
      (λ honest m holds h.
      let e : Entry = (c.next.new.row.key, c.next.new.row.value) in
      (all_more (IsEntryBelow c.args.next) h.rows e (c.if-not-is_sound.ensures.below refl) h.known.0, all_more (λ x. IsRow x.0) h.rows e (c.if-not-is_sound.ensures.row refl) h.known.1));
}

pub returns : goal.returns
returns g c = not_looked c.loop-taken.invariant.walked.passed.quiet (λ honest m holds due.
    walk_ends c.loop-taken.invariant.walked c.row_limit-taken-end.result c.row_limit-taken-end.ensures (let done = c.loop-taken-test.false in omega arith) honest m holds)
