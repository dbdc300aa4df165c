use Rattle.{std.{specs.Prelude.codes, proofs.Common.{◌≡◌, length}}, http_wire.specs.claim.Connection.{parts, ends_in}}
use Rattle.http_wire.proofs.lists.ends_in_chunked.Given as goal

abbrev pub invariant-loop-next : goal.invariant-loop-next
invariant-loop-next l = ends_in (codes "chunked") (parts l.rest) ≡ ends_in (codes "chunked") (parts l.value)

abbrev pub decreases-loop-next : goal.decreases-loop-next
decreases-loop-next l = length l.rest
