use Rattle.{std.proofs.Common.rules, http_wire.proofs.ConnectionLemmas.two_parts}
use Rattle.http_wire.proofs.lists.is_one.Goals as goal

pub returns-in-Some : goal.returns-in-Some
returns-in-Some c = search (rules, c.cut.ensures, two_parts)
