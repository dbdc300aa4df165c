use Rattle.{std.proofs.Common.rules, http_wire.proofs.{AddingLemmas.adds, QueueLemmas.head_built}}
use Rattle.http_wire.proofs.response.WriteBuffer.put_head.Goals as goal

pub returns : goal.returns
returns c =
    let r = c.args.response.now in
    let put = adds (adds (adds c.put_start.ensures c.put_length.ensures) c.put_allow.ensures) c.put_end.ensures in
    search (rules, r, put, head_built)
