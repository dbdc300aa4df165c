use Rattle.std.proofs.Common.{◌≡◌, arith}
use Rattle.http_wire.proofs.response.WriteBuffer.put_start.Goals as goal

pub returns-in-200-Json : goal.returns-in-200-Json
returns-in-200-Json c =
    let same : c.args.status ≡ 200 = omega (arith, c.in-200-Json.is-0, c.as_u16.ensures.value) in
    record { is = rw (c.in-200-Json.is-1, same) c.put.ensures.is; few = omega arith }

pub returns-in-201-Json : goal.returns-in-201-Json
returns-in-201-Json c =
    let same : c.args.status ≡ 201 = omega (arith, c.in-201-Json.is-0, c.as_u16.ensures.value) in
    record { is = rw (c.in-201-Json.is-1, same) c.put-in-201-Json.ensures.is; few = omega arith }
