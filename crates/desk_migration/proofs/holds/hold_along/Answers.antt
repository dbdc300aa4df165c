use Rattle.{std.proofs.Common.{◌≡◌, ◌≤◌, true, false, arith}, desk_migration.{specs.Walks.IsWalking, proofs.Turns.{full_held, more_held, none_held, not_later, stop_held}}}
use Rattle.desk_store_pages.proofs.Writing.{does, told_on}
use Rattle.desk_store_opening.proofs.chunk_table.Writing.{after_reads}
use Rattle.desk_migration.proofs.holds.hold_along.Goals as goal

pub loop-held-init : goal.loop-held-init
loop-held-init g c = record { begun = c.requires.begun; under = c.requires.under; held = none_held (IsWalking c.args.walk.now) c.none-fingers.result c.args.txn.now c.args.pages.now c.none-fingers.ensures.first c.none-fingers.ensures.second }

pub returns-in_err-hold_next-clause-holds : goal.returns-in_err-hold_next-clause-holds
returns-in_err-hold_next-clause-holds g c =
    let before = c.loop-held.invariant.held in
    told_on c.from_residual.result (after_reads _ before.passed.quiet c.in_err-hold_next.ensures.holds) c.from_residual.ensures.1
    (λ why. search (not_later, c.in_err-hold_next.field-0.0, why.0))

pub returns-then-not-branch-clause-holds : goal.returns-then-not-branch-clause-holds
returns-then-not-branch-clause-holds g c =
    let before = c.loop-held.invariant.held in
    let few : c.loop-held.held ≤ 8 = let less = c.loop-held-test.true in omega arith in
    let turn = rw c.if-not-branch.true at c.in_ok-hold_next.ensures.holds.put in
    does (after_reads _ before.passed.quiet c.in_ok-hold_next.ensures.holds)
    (λ did. (
      few,
      stop_held c.loop-held.held (IsWalking c.args.walk.now) (IsWalking c.loop-held.walk) c.loop-held.fingers c.args.txn.now c.loop-held.txn c.args.pages.now c.loop-held.pages c.hold_next.new.pages before
          (IsWalking c.hold_next.new.walk) c.hold_next.new.fingers c.hold_next.new.txn turn,
    ))

pub loop-held-preserved : goal.loop-held-preserved
loop-held-preserved g c =
    let turn = rw c.if-not-branch.false at c.in_ok-hold_next.ensures.holds.put in
    search (c.in_ok-hold_next.ensures.holds.begun, c.in_ok-hold_next.ensures.under, more_held)

pub returns-clause-holds : goal.returns-clause-holds
returns-clause-holds g c =
    let all : c.loop-held.held ≡ 8 = let most = c.loop-held.auto.held-end in let end = c.loop-held-test.false in omega arith in
    let held = c.loop-held.invariant.held in
    record {
      quiet = held.passed.quiet;
      begun = c.loop-held.invariant.begun;
      put = (omega arith, full_held c.loop-held.held (IsWalking c.args.walk.now) (IsWalking c.loop-held.walk) c.loop-held.fingers c.args.txn.now c.loop-held.txn c.args.pages.now c.loop-held.pages all held);
    }
