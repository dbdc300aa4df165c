use Rattle.http_desk.proofs.streams.http_wire.AddingLemmas.{adds}
use Rattle.connection_log.proofs.line.LineText.put_connection.Goals as goal

pub returns : goal.returns
returns c =
    let three = adds (adds (adds c.put_moment.ensures c.put_count.ensures) c.put_count-2.ensures) c.put_count-3.ensures in
    (adds (adds (adds (adds three c.put_count-4.ensures) c.put_count-5.ensures) c.put_count-6.ensures) c.put.ensures).is
