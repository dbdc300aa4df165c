use Rattle.{std.proofs.Common.{Err, refl, inl, ◌∙◌, rules}, http_desk_streams.proofs.NextLemmas.{nothing_came, no_bytes, next_cut, next_read, next_ended, next_failed}}
use Rattle.http_wire.specs.declared.fault.RequestFault.TheVariants as fault
use Rattle.http_desk_streams.specs.declared.serve.Asked.TheVariants as asked
use Rattle.http_desk_streams.proofs.serve.next_request.Goals as goal

pub returns-in-Err-clause-read : goal.returns-in-Err-clause-read
returns-in-Err-clause-read g c = next_cut _ _ _ _ _ c.args.stream.now.read_buffer c.args.stream.now.write_buffer c.loop-stream.stream.read_buffer c.loop-stream.stream.write_buffer c.loop-stream.stream.read_buffer c.flush.new.self c.loop-stream.invariant.turned c.in-Err.ensures.bytes

pub returns-in-Err-Read-clause-read : goal.returns-in-Err-Read-clause-read
returns-in-Err-Read-clause-read g c =
    nothing_came _ _ _ _ _ _ c.args.stream.now.read_buffer c.args.stream.now.write_buffer c.loop-stream.stream.read_buffer c.loop-stream.stream.write_buffer c.fill.new.self c.flush.new.self (Err fault.Read) c.loop-stream.invariant.turned (no_bytes _ _ c.loop-stream-test.ensures c.as_slice.ensures) c.in-Ok.ensures.bytes c.in-Err-Read.ensures.bytes.0 (λ none. (inl none, refl))

pub returns-in-Err-TurnLimit-clause-read : goal.returns-in-Err-TurnLimit-clause-read
returns-in-Err-TurnLimit-clause-read g c =
    nothing_came _ _ _ _ _ _ c.args.stream.now.read_buffer c.args.stream.now.write_buffer c.loop-stream.stream.read_buffer c.loop-stream.stream.write_buffer c.fill.new.self c.flush.new.self (Err fault.TurnLimit) c.loop-stream.invariant.turned (no_bytes _ _ c.loop-stream-test.ensures c.as_slice.ensures) c.in-Ok.ensures.bytes c.in-Err-TurnLimit.ensures.bytes.0 (λ none. (inl none, refl))

pub returns-in-Err-flush-clause-read : goal.returns-in-Err-flush-clause-read
returns-in-Err-flush-clause-read g c = search (rules, c.loop-stream.invariant.turned, c.in-Err-flush.ensures.bytes, next_cut)

pub returns-in-End-clause-read : goal.returns-in-End-clause-read
returns-in-End-clause-read g c =
    let read = c.in-Ok-read_request.ensures.read in
    next_ended _ _ _ _ _ _ _ _ _ c.loop-stream.stream.read_buffer c.loop-stream.stream.write_buffer c.take_request.new.read_buffer read.0 c.read_request.new.read_buffer c.flush-2.new.self read.1 c.loop-stream.invariant.turned c.in-Ok-flush.ensures.bytes
    (c.take_request.ensures.none c.in-None-take_request.is ∙ c.take_list.ensures.none c.in-None.is) read.2 read.3 c.flush-2.ensures.emptied (rw c.in-End.is at read.4)

pub returns-in_default-clause-read : goal.returns-in_default-clause-read
returns-in_default-clause-read g c =
    let read = c.in-Ok-read_request.ensures.read in
    next_read _ _ _ _ _ _ _ _ _ c.loop-stream.stream.read_buffer c.loop-stream.stream.write_buffer c.take_request.new.read_buffer read.0 c.read_request.new.read_buffer c.flush-2.new.self read.1 c.loop-stream.invariant.turned c.in-Ok-flush.ensures.bytes
    (c.take_request.ensures.none c.in-None-take_request.is ∙ c.take_list.ensures.none c.in-None.is) read.2 read.3 c.flush-2.ensures.emptied c.in-Ok-read_request.incoming c.in_default.not-End read.4

pub returns-in-Err-read_request-clause-read : goal.returns-in-Err-read_request-clause-read
returns-in-Err-read_request-clause-read g c =
    let read = c.in-Err-read_request.ensures.read in
    next_failed _ _ _ _ _ _ _ _ _ c.loop-stream.stream.read_buffer c.loop-stream.stream.write_buffer c.take_request.new.read_buffer read.0 c.read_request.new.read_buffer c.flush-2.new.self read.1 c.loop-stream.invariant.turned c.in-Ok-flush.ensures.bytes
    (c.take_request.ensures.none c.in-None-take_request.is ∙ c.take_list.ensures.none c.in-None.is) read.2 read.3 c.flush-2.ensures.emptied c.in-Err-read_request.fault read.4
