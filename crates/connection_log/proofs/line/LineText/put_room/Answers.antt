use Rattle.http_desk.proofs.streams.http_wire.AddingLemmas.{adds}
use Rattle.connection_log.proofs.line.LineText.put_room.Goals as goal

pub returns : goal.returns
returns c = (adds (adds (adds c.put_moment.ensures c.put_count.ensures) c.put_count-2.ensures) c.put.ensures).is
