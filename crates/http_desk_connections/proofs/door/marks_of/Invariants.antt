use Rattle.std.proofs.Common.{◌≡◌, length}
use Rattle.http_desk_connections.proofs.door.marks_of.Given as goal

abbrev pub invariant-loop : goal.invariant-loop
invariant-loop l = length l.marks.items ≡ l.counter
