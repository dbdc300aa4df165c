use Rattle.{std.proofs.Common.{rules, sym, subst, ◌∙◌, arith}, page_btree.specs.node.claim.Entries.Entry, store_verification_rows.specs.Strays.{IsAny, IsNaming}}
use Rattle.{btree_scan.proofs.{RowsFound.all_more, Walked.{walk_all, walk_begins, walk_ends, walk_on, walk_quiet, walk_refused}}, desk_store_pages.proofs.Reading.get_unread}
use Rattle.{desk_store_pages.proofs.Looking.{finds, looked, not_looked}, page_store.proofs.Stops.{passed_more, passed_none}}
use Rattle.store_verification_rows.proofs.Belonging.{none_named, walk_looks}
use Rattle.store_verification_rows.proofs.namings.find_naming.Goals as goal

pub loop-taken-init : goal.loop-taken-init
loop-taken-init g c = search (rules, walk_begins)

pub returns-in-None : goal.returns-in-None
returns-in-None g c = looked (passed_more c.args.pages.now c.loop-taken.pages c.next.new.pages c.loop-taken.invariant.walked.passed (c.next.ensures.passed (sym c.fault.ensures ∙ c.in-None.is))) (λ honest m holds.
    let all = walk_all c.loop-taken.invariant.walked c.next.ensures.quiet c.next.new.self c.next.new.row c.next.result c.next.ensures.rows c.if-not-next.true (sym c.fault.ensures ∙ c.in-None.is) honest m holds in
    none_named c.args.ranges.now c.args.of c.args.number c.args.piece m all.rows all.whole all.known)

pub returns-in-Some : goal.returns-in-Some
returns-in-Some g c = not_looked (walk_quiet c.loop-taken.invariant.walked c.next.ensures.quiet) (get_unread IsAny c.args.txn.now c.args.pages.now c.next.new.pages c.in-Some.fault
    (walk_refused c.loop-taken.invariant.walked c.next.ensures.quiet c.next.new.self c.in-Some.fault (sym c.fault.ensures ∙ c.in-Some.is) c.next.ensures.fault))

pub returns-then-is_naming : goal.returns-then-is_naming
returns-then-is_naming g c =
    finds (walk_looks c.loop-taken.invariant.walked c.next.ensures.quiet c.next.new.self c.next.new.row c.next.result c.next.ensures.rows c.if-not-next.false c.next.ensures.going c.next.ensures.passed) (λ m h. (
      (c.next.new.row.key, c.next.new.row.value),
      h.next.there,
      subst (λ (e : Entry). IsNaming c.args.ranges.now c.args.of c.args.number c.args.piece e) (λ i. (c.as_slice.ensures.bytes i, c.as_slice-in-loop-taken.ensures.bytes i)) (c.is_naming.ensures.yes c.if-is_naming.true),
    ))

pub loop-taken-preserved : goal.loop-taken-preserved
loop-taken-preserved g c =
    let no : Entry → Type 0 = λ x. IsNaming c.args.ranges.now c.args.of c.args.number c.args.piece x → ⊥ in
    record {
      begun = c.loop-taken.invariant.begun ∙ sym c.next.ensures.quiet.count;
      walked = walk_on c.loop-taken.invariant.walked c.next.ensures.quiet c.next.new.self c.next.new.row c.next.result c.next.ensures.rows c.if-not-next.false c.next.ensures.going c.next.ensures.passed c.next.new.pages (passed_none c.next.new.pages)
          (λ honest m holds h. all_more no h.rows (c.next.new.row.key, c.next.new.row.value)
          (subst no (λ i. (c.as_slice.ensures.bytes i, c.as_slice-in-loop-taken.ensures.bytes i)) (c.is_naming.ensures.no c.if-is_naming.false)) h.known);
    }

pub returns : goal.returns
returns g c = not_looked c.loop-taken.invariant.walked.passed.quiet (λ honest m holds due.
    walk_ends c.loop-taken.invariant.walked c.row_limit-taken-end.result c.row_limit-taken-end.ensures (let done = c.loop-taken-test.false in omega arith) honest m holds)
