use Rattle.{std.proofs.Common.{refl, rules}, desk_theorem_runs.proofs.Stepping.step_tends}
use Rattle.desk_theorem_runs.proofs.tending.sweep_checked.Goals as goal

pub returns-in-Ok-clause-tends : goal.returns-in-Ok-clause-tends
returns-in-Ok-clause-tends g c = search (rules, c.sweep_step.ensures, step_tends)

pub returns-in-Ok-clause-may : goal.returns-in-Ok-clause-may
returns-in-Ok-clause-may g c = record { working = c.in-Ok.ensures.maintains.working; few = (refl, c.in-Ok.ensures.few); exact = c.in-Ok.ensures.exact; err = tt }

pub returns-in-Err-clause-tends : goal.returns-in-Err-clause-tends
returns-in-Err-clause-tends g c = search (rules, c.sweep_step.ensures, step_tends)

pub returns-in-Err-clause-may : goal.returns-in-Err-clause-may
returns-in-Err-clause-may g c = record { working = tt; few = tt; exact = λ honest m has. tt; err = c.in-Err.ensures.maintains.err }
