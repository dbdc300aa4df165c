use Rattle.{std.proofs.Common.{ℕ, List, ◌++◌, ap, subst, ◌∙◌}, byte_stream.specs.claim.Sends.Sends, http_wire.specs.Answer.head_of}
use Rattle.http_wire.proofs.response.WriteBuffer.write_long.Goals as goal

pub returns-clause-bytes : goal.returns-clause-bytes
returns-clause-bytes g c =
    subst (λ (xs : List ℕ). Sends (g.W.Sink.contents c.args.writer.now) (g.W.Sink.contents c.send_both-result.new.self) c.send_both-result.result (xs ++ c.args.body.now))
    (c.as_slice.ensures.value ∙ c.self-2.view_is ∙ c.put_head.ensures.is ∙ ap (λ (xs : List ℕ). xs ++ head_of c.args.response.now) c.clear.ensures.items) c.send_both-result.ensures.bytes
