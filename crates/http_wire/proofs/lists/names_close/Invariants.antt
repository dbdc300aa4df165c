use Rattle.{std.proofs.Common.{◌≡◌, length}, http_wire.specs.claim.Connection.names_close}
use Rattle.http_wire.proofs.lists.names_close.Given as goal

abbrev pub invariant-loop-more : goal.invariant-loop-more
invariant-loop-more l = names_close l.rest ≡ names_close l.value

abbrev pub decreases-loop-more : goal.decreases-loop-more
decreases-loop-more l = length l.rest
