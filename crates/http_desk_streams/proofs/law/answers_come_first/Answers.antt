use Rattle.http_desk_streams.proofs.Owing.{interim_first}
use Rattle.http_desk_streams.proofs.law.answers_come_first.Goals as goal

pub returns-clause-interim : goal.returns-clause-interim
returns-clause-interim g c = interim_first
