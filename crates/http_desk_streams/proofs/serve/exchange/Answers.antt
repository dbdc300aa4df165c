use Rattle.{std.proofs.Common.{◌++◌, refl}, http_desk_streams.proofs.TalkLemmas.{may_handle, answered_by, unanswered, cut_next, cut_short, put, queued_as}}
use Rattle.http_desk_streams.specs.declared.serve.Asked.TheVariants as asked
use Rattle.http_desk_streams.proofs.serve.exchange.Goals as goal

pub returns-in-Err-Read-clause-talks : goal.returns-in-Err-Read-clause-talks
returns-in-Err-Read-clause-talks g c =
    let read = rw c.in-Err-Read.field-0-is at c.in-Err-Read.ensures.read in
    (read.0, read.1, read.2, read.3, read.4, cut_short g.C.Counter.commands g.C.Counter.asks c.args.counter.now (c.args.stream.now.read_buffer ++ read.0) read.1 read.5.0, read.5.1)

pub returns-in-Err-TurnLimit-clause-talks : goal.returns-in-Err-TurnLimit-clause-talks
returns-in-Err-TurnLimit-clause-talks g c =
    let read = rw c.in-Err-TurnLimit.field-0-is at c.in-Err-TurnLimit.ensures.read in
    (read.0, read.1, read.2, read.3, read.4, cut_short g.C.Counter.commands g.C.Counter.asks c.args.counter.now (c.args.stream.now.read_buffer ++ read.0) read.1 read.5.0, read.5.1)

pub returns-in-Err-Write-clause-talks : goal.returns-in-Err-Write-clause-talks
returns-in-Err-Write-clause-talks g c =
    let read = rw c.in-Err-Write.field-0-is at c.in-Err-Write.ensures.read in
    (read.0, read.1, read.2, read.3, read.4, cut_next g.C.Counter.commands g.C.Counter.asks c.args.counter.now (c.args.stream.now.read_buffer ++ read.0) read.1 read.5, tt)

pub returns-in-Ok-None-clause-talks : goal.returns-in-Ok-None-clause-talks
returns-in-Ok-None-clause-talks g c =
    let read = rw c.in-Ok-None.field-0-is at c.in-Ok-None.ensures.read in
    let end = rw c.in-Ok-None.field-0-is at c.in-Ok-None.ensures.end in
    (read.0, read.1, read.2, read.3, read.4, (unanswered g.C.Counter.commands g.C.Counter.asks c.args.counter.now (c.args.stream.now.read_buffer ++ read.0) read.1 read.5.0, end refl), read.5.1)

pub returns-in-Ok-Some-List-clause-talks : goal.returns-in-Ok-Some-List-clause-talks
returns-in-Ok-Some-List-clause-talks g c =
    let read = rw (c.in-Ok-Some-List.field-0-is, c.in-Ok-Some-List.field-0-0-is) at c.in-Ok-Some-List.ensures.read in
    let stream = c.args.stream.now in
    let next = c.next_request.new.stream in
    let list = c.list-closes in
    let is = answered_by g.C.Counter.commands g.C.Counter.asks c.args.counter.now list.new.counter (asked.List c.in-Ok-Some-List.closes) (stream.read_buffer ++ read.0) next.read_buffer read.1 read.2 next.write_buffer list.new.answer list.result read.5 list.ensures.handles in
    let all = put g.C.Counter.commands g.C.Counter.asks c.args.counter.now list.new.counter _ _ _ (g.R.Source.remaining c.next_request.new.reader) (stream.read_buffer ++ read.0) next.read_buffer stream.write_buffer next.write_buffer c.put_answer.new.write_buffer read.1
    list.new.answer list.result c.put_answer.result is.0 (queued_as _ _ stream.write_buffer read.2 next.write_buffer read.1 is.1 read.4) c.put_answer.ensures.bytes in
    (read.0, all.0, all.1, read.3, all.2, all.3, all.4)

pub handle-closes-requires-clause-takes : goal.handle-closes-requires-clause-takes
handle-closes-requires-clause-takes g c =
    let read = rw (c.in-Ok-Some-Of.field-0-is, c.in-Ok-Some-Of.field-0-0-is) at c.in-Ok-Some-Of.ensures.read in
    may_handle g.C.Counter.takes c.args.counter.now _ _ c.args.stream.now.read_buffer read.0 c.next_request.new.stream.read_buffer read.1 read.2 c.next_request.new.stream.write_buffer c.in-Ok-Some-Of.incoming c.requires read.3 read.5

pub returns-clause-talks : goal.returns-clause-talks
returns-clause-talks g c =
    let read = rw (c.in-Ok-Some-Of.field-0-is, c.in-Ok-Some-Of.field-0-0-is) at c.in-Ok-Some-Of.ensures.read in
    let stream = c.args.stream.now in
    let next = c.next_request.new.stream in
    let handle = c.handle-closes in
    let is = answered_by g.C.Counter.commands g.C.Counter.asks c.args.counter.now handle.new.counter (asked.Of c.in-Ok-Some-Of.incoming) (stream.read_buffer ++ read.0) next.read_buffer read.1 read.2 next.write_buffer handle.new.answer handle.result read.5 handle.ensures.handles in
    let all = put g.C.Counter.commands g.C.Counter.asks c.args.counter.now handle.new.counter _ _ _ (g.R.Source.remaining c.next_request.new.reader) (stream.read_buffer ++ read.0) next.read_buffer stream.write_buffer next.write_buffer c.put_answer-next.new.write_buffer read.1
    handle.new.answer handle.result c.put_answer-next.result is.0 (queued_as _ _ stream.write_buffer read.2 next.write_buffer read.1 is.1 read.4) c.put_answer-next.ensures.bytes in
    (read.0, all.0, all.1, read.3, all.2, all.3, all.4)

pub returns-clause-passed : goal.returns-clause-passed
returns-clause-passed g c = λ is. c.handle-closes.ensures.passed (rw is at c.put_answer-next.ensures.bytes).0
