use Rattle.{std.{specs.List.slice_get, proofs.Common.{◌≡◌, ◌<◌, ◌≤◌, length, take, map, Some}}, http_wire.specs.claim.Prefix.values, httparse.specs.Spans.header_bytes}
use Rattle.http_wire.proofs.head.find_value.Given as goal

abbrev pub invariant-loop-h : goal.invariant-loop-h
invariant-loop-h l = record {
  count : l.count ≡ length (values l.word (map (header_bytes l.buf) (take l.h-index l.headers)));
  first : 0 < l.count → slice_get (values l.word (map (header_bytes l.buf) (take l.h-index l.headers))) 0 ≡ Some l.first;
  few : l.count ≤ l.h-index;
}
