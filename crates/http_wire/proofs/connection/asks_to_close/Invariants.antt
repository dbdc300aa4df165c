use Rattle.{std.{specs.List.list_any, proofs.Common.{◌≡◌, map, drop}}, http_wire.specs.claim.Connection.is_closing, httparse.specs.Spans.header_bytes}
use Rattle.http_wire.proofs.connection.asks_to_close.Given as goal

abbrev pub invariant-loop-h : goal.invariant-loop-h
invariant-loop-h l = list_any is_closing (map (header_bytes l.buf) (drop l.h-index l.headers)) ≡ list_any is_closing (map (header_bytes l.buf) l.headers)
