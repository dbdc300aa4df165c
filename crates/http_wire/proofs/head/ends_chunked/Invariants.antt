use Rattle.{std.{specs.{List.flat_map, Prelude.codes}, proofs.Common.{◌≡◌, take, map}}, http_wire.specs.claim.{Connection.{parts, ends_in}, Prefix.values}}
use Rattle.httparse.specs.Spans.{header_bytes}
use Rattle.http_wire.proofs.head.ends_chunked.Given as goal

abbrev pub invariant-loop-h : goal.invariant-loop-h
invariant-loop-h l = l.ends ≡ ends_in (codes "chunked") (flat_map parts (values (codes "transfer-encoding") (map (header_bytes l.buf) (take l.h-index l.headers))))
