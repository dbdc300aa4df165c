use Rattle.{std.proofs.Common.{◌≤◌, List, ℕ, length, drop, ◌∙◌, ap, sym, subst, arith, length-drop}, http_wire.specs.Incoming.{Taken, IsTargetOf}, httparse.specs.Spans.span_bytes}
use Rattle.http_wire.proofs.TakenLemmas.{body_cut, taken_whole}
use Rattle.http_wire.proofs.request.take_found.Goals as goal

pub returns-clause-taken : goal.returns-clause-taken
returns-clause-taken c =
    let input = c.args.read_buffer.now in
    let head = c.args.head in
    let rest = c.consume-2.new.self in
    let body = c.extend_from_slice.new.self in
    let within : c.args.n ≤ length (drop head.len input) = omega (arith, c.requires.whole, length-drop head.len input) in
    let cut = body_cut (drop head.len input) body.items rest c.as_slice-bytes.result.now c.in-Ok.begun.request.body.items c.consume.new.self c.args.n
    c.in-Ok-extend_from_slice.ensures.items c.in-Ok.ensures.body c.as_slice-bytes.ensures c.consume.ensures c.consume-2.ensures within in
    subst (λ x. Taken input x rest) (sym c.targeted.ensures)
    (taken_whole c.chunk_law.ensures input head (record c.in-Ok.begun.request { body = body }) c.in-Ok.begun.is_good c.args.n rest c.requires.found c.requires.plain c.requires.framing
    (c.in-Ok.ensures.method ∙ ap (λ (xs : List ℕ). span_bytes xs head.method) c.as_slice.ensures)
    (subst (λ (xs : List ℕ). IsTargetOf (span_bytes xs head.target) c.in-Ok.begun.is_good c.in-Ok.begun.request.target.items) c.as_slice.ensures c.in-Ok.ensures.target)
    c.in-Ok.ensures.closes cut.0 cut.1)
