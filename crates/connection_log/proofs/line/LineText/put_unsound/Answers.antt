use Rattle.http_desk.proofs.streams.http_wire.AddingLemmas.{adds}
use Rattle.connection_log.proofs.line.LineText.put_unsound.Goals as goal

pub returns : goal.returns
returns c = (adds c.put_moment.ensures c.put.ensures).is
