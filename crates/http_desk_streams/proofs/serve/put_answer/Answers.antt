use Rattle.{std.proofs.Common.{[], sym, rules}, http_desk_streams.proofs.TalkLemmas.{flushed, flushed_cut, queued_as}}
use Rattle.http_desk_streams.proofs.serve.put_answer.Goals as goal

pub returns-in-Err-flush-clause-bytes : goal.returns-in-Err-flush-clause-bytes
returns-in-Err-flush-clause-bytes g c = flushed_cut _ (g.W.Sink.contents c.send.new.writer) _ c.args.write_buffer.now c.send.new.write_buffer c.args.answer.now c.in-Ok.ensures.bytes c.in-Err-flush.ensures.bytes

pub returns-then-closes-clause-bytes : goal.returns-then-closes-clause-bytes
returns-then-closes-clause-bytes g c = search (rules, c.in-Ok.ensures.bytes, c.in-Ok-flush.ensures.bytes, flushed)

pub returns-else-closes-clause-bytes : goal.returns-else-closes-clause-bytes
returns-else-closes-clause-bytes g c =
    let sent = flushed _ (g.W.Sink.contents c.send.new.writer) _ c.args.write_buffer.now c.send.new.write_buffer c.args.answer.now c.in-Ok.ensures.bytes c.in-Ok-flush.ensures.bytes in
    (c.if-closes.false, queued_as _ _ c.args.write_buffer.now [] c.flush.new.self c.args.answer.now (sym c.flush.ensures.emptied) sent)
