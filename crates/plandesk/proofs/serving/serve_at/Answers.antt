use Rattle.plandesk.proofs.Served.{runs_serve}
use Rattle.plandesk.proofs.serving.serve_at.Goals as goal

pub returns : goal.returns
returns g c = runs_serve _ _ _ _ _ _ _ _ _ _ _ _ _ _ c.serve_in_file-status.ensures
