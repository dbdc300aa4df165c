use Rattle.desk_theorem_loading.proofs.Opened.{new_keeps}
use Rattle.desk_theorem_loading.proofs.starts.opened.Goals as goal

pub returns-in-Ok-clause-keeps : goal.returns-in-Ok-clause-keeps
returns-in-Ok-clause-keeps g c = new_keeps c.args.device c.in-Ok.clerk c.requires.new c.in-Ok.ensures.ok
