use Rattle.{std.{specs.{FinMap.get, Prelude.Some}, proofs.Common.{◌≡◌, ◌+◌, ℕ, List, [], ◌∷◌, refl, inl, sym, ap, subst, ◌∙◌, arith, length-append}}, btree_scan.specs.Parts.row_of}
use Rattle.{page_btree.specs.node.claim.Entries.Entry, store_verification_rows.specs.{Strays.{IsJudged, IsRight, IsStray}, Wholes.{AllSay, IsRowOf, IsWhole}}}
use Rattle.{btree_scan.proofs.{RowsFound.all_more, Walked.{walk_all, walk_begins, walk_ends, walk_on, walk_quiet, walk_refused}}, desk_store_pages.proofs.Reading.get_unread}
use Rattle.{desk_store_pages.proofs.Looking.{both, fails_then, finds, looked, not_looked, refuses}, page_store.proofs.Stops.passed_more}
use Rattle.store_verification_rows.proofs.{Belonging.{all_right, stray_by, walk_looks}, Whole.all_whole}
use Rattle.store_verification_rows.proofs.wholes.check_rows.Goals as goal

pub loop-taken-init : goal.loop-taken-init
loop-taken-init g c = record {
  begun = c.requires.begun;
  walked = walk_begins c.args.pages.now c.scan-scan.result c.scan-scan.ensures.fault c.scan-scan.ensures.rows (λ m. (refl, tt, tt, inl c.empty-part.ensures.key));
}

pub returns-in-None : goal.returns-in-None
returns-in-None g c =
    let none = sym c.fault.ensures ∙ c.in-None.is in
    looked (passed_more c.args.pages.now c.loop-taken.pages c.advance.new.pages c.loop-taken.invariant.walked.passed (c.advance.ensures.passed none)) (λ honest m holds.
    let all = walk_all c.loop-taken.invariant.walked c.advance.ensures.quiet c.advance.new.self (row_of c.advance.new.self) c.advance.result c.advance.ensures.rows c.if-not-advance.true none honest m holds in
    (all_whole m c.loop-taken.taken all.rows all.whole all.known.0 all.known.1, all_right c.args.ranges.now m all.rows all.whole all.known.2))

pub returns-in-Some : goal.returns-in-Some
returns-in-Some g c = not_looked (walk_quiet c.loop-taken.invariant.walked c.advance.ensures.quiet) (get_unread AllSay c.args.txn.now c.args.pages.now c.advance.new.pages c.in-Some.fault
    (walk_refused c.loop-taken.invariant.walked c.advance.ensures.quiet c.advance.new.self c.in-Some.fault (sym c.fault.ensures ∙ c.in-Some.is) c.advance.ensures.fault))

pub returns-then-not-is_whole : goal.returns-then-not-is_whole
returns-then-not-is_whole g c =
    let row = row_of c.advance.new.self in
    refuses (walk_looks c.loop-taken.invariant.walked c.advance.ensures.quiet c.advance.new.self row c.advance.result c.advance.ensures.rows c.if-not-advance.false c.advance.ensures.going c.advance.ensures.passed)
    (λ m h all. c.is_whole.ensures.no c.if-not-is_whole.true (subst IsRowOf (λ i. (sym c.key-key.ensures.key i, sym c.value-value.ensures.value i)) (all row.key row.value h.next.there)))

pub returns-in_err-judge : goal.returns-in_err-judge
returns-in_err-judge g c =
    fails_then (walk_looks c.loop-taken.invariant.walked c.advance.ensures.quiet c.advance.new.self (row_of c.advance.new.self) c.advance.result c.advance.ensures.rows c.if-not-advance.false c.advance.ensures.going c.advance.ensures.passed)
    c.from_residual.result c.in_err-judge.ensures c.from_residual.ensures.1 (λ m h all. tt)

pub returns-in-Some-2 : goal.returns-in-Some-2
returns-in-Some-2 g c =
    let key = c.key-key.result.now in
    let value = c.value-value.result.now in
    let first = walk_looks c.loop-taken.invariant.walked c.advance.ensures.quiet c.advance.new.self (row_of c.advance.new.self) c.advance.result c.advance.ensures.rows c.if-not-advance.false c.advance.ensures.going c.advance.ensures.passed in
    finds (both first c.in_ok-judge.ensures) (λ m is.
    let there = ap (get m) c.key-key.ensures.key ∙ is.0.next.there ∙ ap Some (sym c.value-value.ensures.value) in
    subst (λ (k : List ℕ). IsStray c.args.ranges.now m k) (sym c.of.ensures) (stray_by c.args.ranges.now m (key, value) there (subst (IsJudged c.args.ranges.now (key, value) m) c.in-Some-2.is (is.1 is.0.known.3).1)))

pub loop-taken-preserved : goal.loop-taken-preserved
loop-taken-preserved g c =
    let e : Entry = ((row_of c.advance.new.self).key, (row_of c.advance.new.self).value) in
    let same : (c.key-key.result.now, c.value-value.result.now) ≡ e = λ i. (c.key-key.ensures.key i, c.value-value.ensures.value i) in
    record {
      begun = c.loop-taken.invariant.begun ∙ sym c.advance.ensures.quiet.count ∙ sym c.in_ok-judge.ensures.quiet.count;
      walked = walk_on c.loop-taken.invariant.walked c.advance.ensures.quiet c.advance.new.self (row_of c.advance.new.self) c.advance.result c.advance.ensures.rows c.if-not-advance.false c.advance.ensures.going c.advance.ensures.passed c.judge.new.pages c.in_ok-judge.ensures.passed
          (λ honest m holds h.
          let found = c.in_ok-judge.ensures.there honest m holds h.known.3 in (
            length-append h.rows (e ∷ []) ∙ ap (λ k. k + 1) h.known.0,
            all_more IsWhole h.rows e (subst IsWhole same (c.is_whole.ensures.yes c.if-not-is_whole.false)) h.known.1,
            all_more (IsRight c.args.ranges.now m) h.rows e (subst (IsRight c.args.ranges.now m) same (subst (IsJudged c.args.ranges.now (c.key-key.result.now, c.value-value.result.now) m) c.in-None-2.is found.1)) h.known.2,
            found.0,
          ));
    }

pub returns : goal.returns
returns g c = not_looked c.loop-taken.invariant.walked.passed.quiet (λ honest m holds due.
    walk_ends c.loop-taken.invariant.walked c.row_limit-taken-end.result c.row_limit-taken-end.ensures (let done = c.loop-taken-test.false in omega arith) honest m holds)
