use Rattle.{std.proofs.Common.{ℕ, sym, subst, arith}, page_btree.specs.gets.claim.Map.InTxn, plan_revisions_sweeps.specs.Sweeping.HasSwept, sector_device.specs.claim.Disk.Image}
use Rattle.{chunk_table.proofs.Writing.after_reads, desk_store_pages.proofs.Writing.{does, told_on}, page_store.proofs.Stops.passed_none}
use Rattle.plan_revisions_sweeps.proofs.Taken.{none_swept, more_swept, not_later}
use Rattle.plan_revisions_sweeps.proofs.rows.sweep_rows.Goals as goal

pub loop-swept-init : goal.loop-swept-init
loop-swept-init g c = record { begun = c.requires.begun; few = omega arith; swept = none_swept c.args.running c.args.txn.now c.args.pages.now c.args.pages.now (passed_none c.args.pages.now) }

pub returns-in_err-count : goal.returns-in_err-count
returns-in_err-count g c =
    let swept = c.loop-swept.invariant.swept in
    told_on c.from_residual.result (after_reads _ swept.passed.quiet c.in_err-count.ensures) c.from_residual.ensures.1 (λ why. not_later c.args.running c.loop-swept.swept c.args.txn.now c.loop-swept.txn c.args.pages.now c.loop-swept.pages c.sweep_turn.new.pages c.in_err-count.field-0.0 swept why.0 why.1)

pub returns-then-count-eq0 : goal.returns-then-count-eq0
returns-then-count-eq0 g c =
    let before = c.loop-swept.invariant in
    let zero = c.if-count-eq0.true in
    let few = before.few in
    does (after_reads _ before.swept.passed.quiet c.in_ok-count.ensures) (λ turn. record {
      few = few;
      swept = subst (λ (k : ℕ). HasSwept c.args.running k c.args.txn.now c.sweep_turn.new.txn c.args.pages.now c.sweep_turn.new.pages) (omega arith)
          (more_swept c.args.running c.loop-swept.swept c.in_ok-count.count c.args.txn.now c.loop-swept.txn c.sweep_turn.new.txn c.args.pages.now c.loop-swept.pages c.sweep_turn.new.pages before.swept turn.swept);
      clean = λ honest n holds tidy less. turn.clean honest n (subst (λ (P : Image). InTxn c.sweep_turn.new.txn P n) (sym (before.swept.passed.quiet.same (turn.swept.passed.quiet.honest honest))) holds) tidy zero;
    })

pub overflow_add-swept-in-loop-swept : goal.overflow_add-swept-in-loop-swept
overflow_add-swept-in-loop-swept g c = let few = c.in_ok-count.ensures.put.few in let room = c.loop-swept-test.true in omega arith

pub loop-swept-smaller : goal.loop-swept-smaller
loop-swept-smaller g c = let room = c.loop-swept-test.true in let some = c.if-count-eq0.false in omega arith

pub loop-swept-preserved : goal.loop-swept-preserved
loop-swept-preserved g c =
    let turn = c.in_ok-count.ensures.put in
    let few = turn.few in
    let room = c.loop-swept-test.true in
    let swept = more_swept c.args.running c.loop-swept.swept c.in_ok-count.count c.args.txn.now c.loop-swept.txn c.sweep_turn.new.txn
    c.args.pages.now c.loop-swept.pages c.sweep_turn.new.pages c.loop-swept.invariant.swept turn.swept in
    record { begun = c.in_ok-count.ensures.begun; few = omega arith; swept = swept }

pub returns : goal.returns
returns g c =
    let after = c.loop-swept.invariant in
    let few = after.few in
    record {
      quiet = after.swept.passed.quiet;
      begun = after.begun;
      put = record { few = few; swept = after.swept; clean = λ honest n holds tidy less. let done = c.loop-swept-test.false in absurd (omega arith) };
    }
