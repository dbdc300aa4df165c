use Rattle.{std.{specs.List.list_any, proofs.Common.{◌≡◌, map, drop}}, http_wire.specs.claim.Interim.is_expecting, httparse.specs.Spans.header_bytes}
use Rattle.http_wire.proofs.interim.expects_continue.Given as goal

abbrev pub invariant-loop-h : goal.invariant-loop-h
invariant-loop-h l = list_any is_expecting (map (header_bytes l.buf) (drop l.h-index l.headers)) ≡ list_any is_expecting (map (header_bytes l.buf) l.headers)
