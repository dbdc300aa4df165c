use Rattle.{std.proofs.Common.{◌≡◌, ◌<◌, ◌^◌, take}, http_wire.specs.claim.Prefix.number_of}
use Rattle.http_wire.proofs.head.digits.Given as goal

abbrev pub invariant-loop-b : goal.invariant-loop-b
invariant-loop-b l = record { value : l.n ≡ number_of (take l.b-index l.value); small : l.n < 10 ^ l.b-index }
