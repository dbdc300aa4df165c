use Rattle.{std.proofs.Common.{subst, sym}, http_wire.{specs.Incoming.Taken, proofs.InterimLemmas.refused_prefix}}
use Rattle.http_wire.proofs.request.take_request.Goals as goal

pub returns-in-Refused-clause-taken : goal.returns-in-Refused-clause-taken
returns-in-Refused-clause-taken c =
    let read_buffer = c.args.read_buffer.now in
    subst (λ x. Taken read_buffer x read_buffer) (sym c.refused.ensures)
    (tt, refused_prefix _ _ c.in-Refused.refusal.fault c.in-Refused.refusal.head_only c.as_slice.ensures c.in-Refused.ensures)
