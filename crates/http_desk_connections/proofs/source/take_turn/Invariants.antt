use Rattle.{std.{specs.Io.KnownBytes.Keeps, proofs.Common.◌<◌}, http_desk_connections.specs.Paces.silence_of}
use Rattle.http_desk_connections.proofs.source.take_turn.Given as goal

abbrev pub invariant-loop : goal.invariant-loop
invariant-loop g l = record {
  patient : l.pace.silent < silence_of l.fn.limits l.pace.asks;
  none : Keeps (g.S.Read.remaining l.fn.reader) (g.S.Read.remaining l.reader);
}
