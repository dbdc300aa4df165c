use Rattle.state_files.proofs.Plans.{read_whole}
use Rattle.state_files.proofs.plan_file.judge.Goals as goal

pub returns-in-Ok-whole : goal.returns-in-Ok-whole
returns-in-Ok-whole c = read_whole _ c.args.geography.now c.in-Ok.listed _ c.in-Ok.ensures.listed c.in-Ok-whole.ensures
