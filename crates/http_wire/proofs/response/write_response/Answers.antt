use Rattle.{std.proofs.Common.{List, ℕ, ◌++◌, subst}, http_wire.{specs.{Answer.head_of, Queue.Queues}, proofs.QueueLemmas.sent_both}}
use Rattle.http_wire.proofs.response.write_response.Goals as goal

pub returns-clause-bytes : goal.returns-clause-bytes
returns-clause-bytes g c =
    subst (λ (xs : List ℕ). Queues (g.W.Sink.contents c.args.writer.now) (g.W.Sink.contents c.write_long.new.writer) c.args.write_buffer.now c.write_long.new.self c.write_long.result (head_of c.args.response.now ++ xs)) c.sent-body.ensures
    (sent_both _ _ _ c.args.write_buffer.now c.write_long.new.self _ c.write_long.result c.in-Ok.ensures.bytes c.write_long.ensures.bytes c.write_long.ensures.emptied)
