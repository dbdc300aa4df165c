use Rattle.{std.proofs.{Common.{◌+◌, ◌*◌, drop, length, sym, ◌∙◌, arith}, Math.ListN.drop_of_length-le, lemmas.List.drop_more}, chunk_table.specs.Holding.CanHoldAll}
use Rattle.chunk_table.proofs.{Changed.unread_unchanged, HeldAll.{begun_held, next_held, all_held, next_not_held}, Writing.{after_reads, unread}}
use Rattle.desk_store_pages.proofs.Writing.{told_on}
use Rattle.chunk_table.proofs.holds.hold_all.Goals as goal

pub returns-in_err-free : goal.returns-in_err-free
returns-in_err-free g c =
    let numbers = c.args.numbers.now in
    let e = c.in_err-free.field-0.0 in
    let why = c.in_err-free.ensures in
    unread c.from_residual.result e c.requires.begun why.quiet c.from_residual.ensures.1
    (unread_unchanged (λ m. Unit {0}) (CanHoldAll c.args.plan numbers) (2 * length numbers) c.args.txn.now c.args.pages.now c.free_from.new.pages (λ m is. tt) e why.err)

pub loop-number-init : goal.loop-number-init
loop-number-init g c = record {
  held = begun_held c.args.plan c.args.numbers.now c.in_ok-free.free c.none-fingers.result c.args.txn.now c.args.pages.now c.free_from.new.pages c.in_ok-free.ensures.passed c.none-fingers.ensures.first c.none-fingers.ensures.second c.in_ok-free.ensures.there;
  begun = c.requires.begun ∙ sym c.in_ok-free.ensures.quiet.count;
}

pub returns-in_err-hold_next : goal.returns-in_err-hold_next
returns-in_err-hold_next g c =
    let numbers = c.args.numbers.now in
    let k = c.loop-number.number-index in
    let held = c.loop-number.invariant.held in
    told_on c.from_residual-in_err-hold_next.result (after_reads _ held.held.passed.quiet c.in_err-hold_next.ensures) c.from_residual-in_err-hold_next.ensures.1
    (λ why. next_not_held c.chunks_are_held.ensures c.args.plan _ numbers (drop (k + 1) numbers) (drop k numbers) c.loop-number.free c.loop-number.fingers c.args.txn.now c.loop-number.txn c.args.pages.now c.loop-number.pages c.hold_next.new.pages c.in_err-hold_next.field-0.0
    (drop_more numbers k 0 c.loop-number-test.true) held why.0 why.1)

pub loop-number-preserved : goal.loop-number-preserved
loop-number-preserved g c =
    let plan = c.args.plan in
    let numbers = c.args.numbers.now in
    let k = c.loop-number.number-index in
    record {
      held = next_held plan _ numbers (drop (k + 1) numbers) (drop k numbers) c.loop-number.free c.free_after-free.result c.loop-number.fingers c.hold_next.new.fingers c.args.txn.now c.loop-number.txn c.hold_next.new.txn c.args.pages.now c.loop-number.pages c.hold_next.new.pages (drop_more numbers k 0 c.loop-number-test.true)
          (λ m. c.free_after-free.ensures m plan (omega arith)) c.loop-number.invariant.held c.in_ok-hold_next.ensures.put;
      begun = c.in_ok-hold_next.ensures.begun;
    }

pub returns : goal.returns
returns g c =
    let numbers = c.args.numbers.now in
    let held = c.loop-number.invariant.held in
    record {
      quiet = held.held.passed.quiet;
      begun = c.loop-number.invariant.begun;
      put = all_held c.args.plan numbers (drop c.loop-number.number-index numbers) c.loop-number.free c.loop-number.fingers _ _ _ _ (drop_of_length-le numbers c.loop-number-test.false) held;
    }
