use Rattle.desk_theorem_lives.proofs.Steps.{all_led, end_stopped}
use Rattle.desk_theorem_lives.proofs.leading.end.Goals as goal

pub returns-in-Ok : goal.returns-in-Ok
returns-in-Ok g c = all_led c.args.migration.now c.finish.new.self c.requires.working c.in-Ok.ensures.ends c.in-Ok.ensures.told

pub returns-in-Err : goal.returns-in-Err
returns-in-Err g c = end_stopped c.args.migration.now c.finish.new.self c.in-Err.e c.requires.working c.requires.ended c.in-Err.ensures.ends c.in-Err.ensures.err
