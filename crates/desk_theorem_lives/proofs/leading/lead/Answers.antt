use Rattle.{std.proofs.Common.{refl, rules}, desk_theorem_lives.proofs.Steps.{goes_further, then_led, step_stopped}}
use Rattle.desk_theorem_lives.proofs.leading.lead.Goals as goal

pub loop-made-init : goal.loop-made-init
loop-made-init g c = record { on = record { working = c.requires; sectors = refl; honest = λ now. now; calm = λ now. refl; keeps = λ d keeps. keeps } }

pub loop-made-preserved : goal.loop-made-preserved
loop-made-preserved g c = record { on = goes_further c.args.migration.now c.loop-made.migration c.step.new.self c.loop-made.invariant.on c.in-Ok.ensures.moves c.in-Ok.ensures.working.1 }

pub returns-then-count-eq0 : goal.returns-then-count-eq0
returns-then-count-eq0 g c =
    let x = c.args.migration.now in
    then_led x c.step.new.self c.end.new.migration c.end.result
    (goes_further x c.loop-made.migration c.step.new.self c.loop-made.invariant.on c.in-Ok.ensures.moves c.in-Ok.ensures.working.1) c.end.ensures

pub returns-in-Err : goal.returns-in-Err
returns-in-Err g c = search (rules, c.loop-made.invariant.on, c.in-Err.ensures.moves, c.in-Err.ensures.err, then_led, step_stopped)

pub returns : goal.returns
returns g c = search (rules, c.loop-made.invariant.on)
