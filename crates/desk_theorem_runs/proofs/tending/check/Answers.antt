use Rattle.{std.proofs.Common.{◌≡◌, true, false, rules}, desk_theorem_runs.proofs.Stepping.check_tends}
use Rattle.desk_theorem_runs.proofs.tending.check.Goals as goal

pub returns-in-Ok-clause-tends : goal.returns-in-Ok-clause-tends
returns-in-Ok-clause-tends g c = search (rules, c.check_holders.ensures, c.in-Ok.ensures.sound, check_tends)

pub returns-in-Ok-clause-may : goal.returns-in-Ok-clause-may
returns-in-Ok-clause-may g c = record { working = c.in-Ok.ensures.maintains.working; few = tt; exact = λ honest m has. tt; err = tt }

pub returns-in-Err-clause-tends : goal.returns-in-Err-clause-tends
returns-in-Err-clause-tends g c =
    let did = c.check_holders.ensures in
    check_tends c.args.clerk.now c.check_holders.new.self false did.maintains.moves did.maintains.desk did.maintains.loading did.quiet (λ on. absurd (let clash : false ≡ true = on in cc))

pub returns-in-Err-clause-may : goal.returns-in-Err-clause-may
returns-in-Err-clause-may g c = record { working = tt; few = tt; exact = λ honest m has. tt; err = c.in-Err.ensures.maintains.err }
