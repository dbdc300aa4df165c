use Rattle.talk_command.proofs.Desks.{sample_seen}
use Rattle.talk_command.proofs.laws.desks_talk.Goals as goal

pub returns : goal.returns
returns g c = sample_seen
