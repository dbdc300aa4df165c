use Rattle.std.proofs.Common.{rules}
use Rattle.http_wire.proofs.response.WriteBuffer.put_type.Goals as goal

pub returns-in-Json : goal.returns-in-Json
returns-in-Json c = record { is = rw c.in-Json.is c.put.ensures.is; few = search rules }

pub returns-in-PlainText : goal.returns-in-PlainText
returns-in-PlainText c = record { is = rw c.in-PlainText.is c.put-in-PlainText.ensures.is; few = search rules }
