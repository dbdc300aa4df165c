use Rattle.{std.proofs.Common.{inl, refl, arith, rules}, store_command.proofs.Migrated.{unmoved, then_moved, none_put, more_put, endless}}
use Rattle.store_command.proofs.migrating.put_all.Goals as goal

pub loop-steps-init : goal.loop-steps-init
loop-steps-init g c = search (rules, unmoved, none_put)

pub loop-steps-preserved : goal.loop-steps-preserved
loop-steps-preserved g c =
    let x = c.args.migration.now in
    let y = c.loop-steps.migration in
    let z = c.step.new.self in
    let before = c.loop-steps.invariant in
    let did = c.in-Ok.ensures in
    record {
      working = did.working.1;
      least = let least = before.least in let some = c.if-count-eq0.false in omega arith;
      most = let most = before.most in let few = did.few in omega arith;
      moves = then_moved x y z c.requires before.working before.moves did.moves;
      put = λ honest d m has.
          let one = before.put (did.moves.goes.honest honest) d m has in
          more_put x y z d m c.loop-steps.rows c.in-Ok.count _ refl one (did.put honest d one.n one.has);
    }

pub returns-then-count-eq0-clause-moves : goal.returns-then-count-eq0-clause-moves
returns-then-count-eq0-clause-moves g c =
    then_moved c.args.migration.now c.loop-steps.migration c.step.new.self c.requires c.loop-steps.invariant.working c.loop-steps.invariant.moves c.in-Ok.ensures.moves

pub returns-then-count-eq0-clause-puts : goal.returns-then-count-eq0-clause-puts
returns-then-count-eq0-clause-puts g c =
    let before = c.loop-steps.invariant in
    let did = c.in-Ok.ensures in
    record {
      works = did.working.1;
      ended = did.ended c.if-count-eq0.true;
      put = λ honest d m has.
          let one = before.put (did.moves.goes.honest honest) d m has in
          more_put c.args.migration.now c.loop-steps.migration c.step.new.self d m c.loop-steps.rows c.in-Ok.count c.loop-steps.rows (omega (arith, c.if-count-eq0.true)) one (did.put honest d one.n one.has);
    }

pub returns-in-Err-clause-moves : goal.returns-in-Err-clause-moves
returns-in-Err-clause-moves g c =
    then_moved c.args.migration.now c.loop-steps.migration c.step.new.self c.requires c.loop-steps.invariant.working c.loop-steps.invariant.moves c.in-Err.ensures.moves

pub returns-in-Err-clause-puts : goal.returns-in-Err-clause-puts
returns-in-Err-clause-puts g c =
    let before = c.loop-steps.invariant in
    inl (c.in-Err.e, c.store_fault.ensures, record { w = c.loop-steps.migration; before = before.moves; worked = before.working; last = c.in-Err.ensures.moves; why = c.in-Err.ensures.err })

pub returns-clause-puts : goal.returns-clause-puts
returns-clause-puts g c = endless c.args.migration.now c.loop-steps.migration c.loop-steps.rows (omega arith) c.loop-steps.invariant.working c.loop-steps.invariant.put
