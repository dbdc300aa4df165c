use Rattle.state_files.proofs.AtOnce.{in_turn}
use Rattle.state_files.proofs.at_once.read_state_by.Goals as goal

pub returns-then-workers-le1-clause-read : goal.returns-then-workers-le1-clause-read
returns-then-workers-le1-clause-read g c = in_turn g.R.Source c.args.workers c.args.files.now c.read_state.new.files c.read_state.result c.read_state.ensures.read
