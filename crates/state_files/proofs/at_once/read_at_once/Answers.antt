use Rattle.state_files.proofs.AtOnce.{at_once}
use Rattle.state_files.proofs.at_once.read_at_once.Goals as goal

pub returns-clause-read : goal.returns-clause-read
returns-clause-read g c workers more = at_once g.R.Source workers c.args.files.now c.read_each-found.new.files more c.read_each-found.result.header c.read_each-found.result.first c.read_each-found.result.second c.read_each-found.result.third c.judge_each.result c.read_each-found.ensures.each c.judge_each.ensures.judged
