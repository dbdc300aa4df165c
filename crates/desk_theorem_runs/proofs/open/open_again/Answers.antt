use Rattle.desk_theorem_runs.proofs.One.{recovers}
use Rattle.desk_theorem_runs.proofs.open.open_again.Goals as goal

pub returns-clause-opening : goal.returns-clause-opening
returns-clause-opening g c = record { any_moment = c.open.ensures.any_version; opened = c.open.ensures.opened; working = c.open.ensures.working }

pub returns-clause-again : goal.returns-clause-again
returns-clause-again g c = λ honest d holds.
    recovers c.one_desk_opens.ensures c.args.device d c.open.result holds honest c.open.ensures.any_moment (returns-clause-opening g c) c.open.ensures.err
