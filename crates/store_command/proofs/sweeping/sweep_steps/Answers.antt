use Rattle.{std.proofs.Common.{refl, arith, rules}, store_command.proofs.Swept.{none_kept, kept_after, none_taken, more_taken, all_taken, step_stopped, endless}}
use Rattle.store_command.proofs.sweeping.sweep_steps.Goals as goal

pub loop-steps-init : goal.loop-steps-init
loop-steps-init g c = search (rules, none_kept, none_taken)

pub loop-steps-preserved : goal.loop-steps-preserved
loop-steps-preserved g c =
    let x = c.args.clerk.now in
    let y = c.loop-steps.clerk in
    let z = c.sweep_step.new.self in
    let before = c.loop-steps.invariant in
    let did = c.in-Ok.ensures in
    record {
      working = did.maintains.working.1;
      least = let least = before.least in let some = c.if-count-eq0.false in omega arith;
      most = let most = before.most in let few = did.few in omega arith;
      kept = kept_after x y z before.kept (record { moves = did.maintains.moves; desk = did.maintains.desk; loading = did.maintains.loading });
      taken = λ honest m has.
          let one = before.taken (did.maintains.moves.honest honest) m has in
          more_taken x y z m c.loop-steps.rows c.in-Ok.count _ refl before.kept.loading one (did.swept honest one.n one.has);
    }

pub returns-then-count-eq0 : goal.returns-then-count-eq0
returns-then-count-eq0 g c =
    let did = c.in-Ok.ensures in
    let before = c.loop-steps.invariant in
    record {
      keeps = search (rules, kept_after);
      sweeps = record {
        works = did.maintains.working.1;
        swept = λ honest m has. all_taken c.args.clerk.now c.loop-steps.clerk c.sweep_step.new.self m c.loop-steps.rows c.in-Ok.count before.kept.loading c.if-count-eq0.true (before.taken (did.maintains.moves.honest honest) m has) (λ n rows. did.swept honest n rows);
      };
    }

pub returns-in-Err : goal.returns-in-Err
returns-in-Err g c = record {
  keeps = search (rules, kept_after);
  sweeps = step_stopped c.args.clerk.now c.loop-steps.clerk c.sweep_step.new.self c.in-Err.e c.store_fault.result c.store_fault.ensures c.loop-steps.invariant.kept c.loop-steps.invariant.working c.in-Err.ensures.maintains.moves c.in-Err.ensures.maintains.err;
}

pub returns-clause-sweeps : goal.returns-clause-sweeps
returns-clause-sweeps g c = endless c.args.clerk.now c.loop-steps.clerk c.loop-steps.rows (omega arith) c.loop-steps.invariant.working c.loop-steps.invariant.taken
