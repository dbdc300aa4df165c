use Rattle.{std.proofs.Common.{◌+◌, List, [], ◌∷◌, length, length-append, sym, ap, ◌∙◌, arith}, btree_scan.specs.Parts.row_of, page_btree.specs.node.claim.Entries.Entry}
use Rattle.{store_verification.specs.rows.Strays.IsAny, btree_scan.proofs.Walked.{walk_all, walk_begins, walk_ends, walk_on, walk_quiet, walk_refused}}
use Rattle.{desk_store_pages.proofs.{Looking.{looked, not_looked}, Reading.get_unread}, page_store.proofs.Stops.{passed_more, passed_none}}
use Rattle.inspect_command.proofs.rows.count_under.Goals as goal

pub loop-taken-init : goal.loop-taken-init
loop-taken-init g c = search walk_begins

pub returns-in-None : goal.returns-in-None
returns-in-None g c =
    let none = sym c.fault.ensures ∙ c.in-None.is in
    looked (passed_more c.args.pages.now c.loop-taken.pages c.advance.new.pages c.loop-taken.invariant.walked.passed (c.advance.ensures.passed none)) (λ honest m holds.
    let all = walk_all c.loop-taken.invariant.walked c.advance.ensures.quiet c.advance.new.self (row_of c.advance.new.self) c.advance.result c.advance.ensures.rows c.if-not-advance.true none honest m holds in
    sym all.known ∙ ap (λ (l : List Entry). length l) (sym all.whole))

pub returns-in-Some : goal.returns-in-Some
returns-in-Some g c = not_looked (walk_quiet c.loop-taken.invariant.walked c.advance.ensures.quiet) (get_unread IsAny c.args.txn.now c.args.pages.now c.advance.new.pages c.in-Some.fault
    (walk_refused c.loop-taken.invariant.walked c.advance.ensures.quiet c.advance.new.self c.in-Some.fault (sym c.fault.ensures ∙ c.in-Some.is) c.advance.ensures.fault))

pub loop-taken-preserved : goal.loop-taken-preserved
loop-taken-preserved g c =
    let row = row_of c.advance.new.self in
    let e : Entry = (row.key, row.value) in
    record {
      begun = c.loop-taken.invariant.begun ∙ sym c.advance.ensures.quiet.count;
      walked = walk_on c.loop-taken.invariant.walked c.advance.ensures.quiet c.advance.new.self row c.advance.result c.advance.ensures.rows c.if-not-advance.false c.advance.ensures.going c.advance.ensures.passed c.advance.new.pages (passed_none c.advance.new.pages)
          (λ honest m holds h. length-append h.rows (e ∷ []) ∙ ap (λ k. k + 1) h.known);
    }

pub returns : goal.returns
returns g c = not_looked c.loop-taken.invariant.walked.passed.quiet (λ honest m holds any.
    walk_ends c.loop-taken.invariant.walked c.row_limit-taken-end.result c.row_limit-taken-end.ensures (let done = c.loop-taken-test.false in omega arith) honest m holds)
