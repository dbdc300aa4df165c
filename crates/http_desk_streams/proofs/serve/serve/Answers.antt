use Rattle.{std.proofs.{Common.{◌+◌, ℕ, true, false, Ok, refl, subst, ◌∙◌, arith, rules}, KnownBytes.Consumes-nil}, http_desk_streams.proofs.Passing.passed_more}
use Rattle.http_desk_streams.{specs.claim.Serving.{ServesTo, read_failures, write_failures}, proofs.TalkLemmas.{moved, asked_of, starts, goes, ends, fails}}
use Rattle.http_wire.proofs.intake.DrawsLemmas.{spends_more, spends_none}
use Rattle.http_desk_streams.proofs.serve.serve.Goals as goal

pub loop-requests-init : goal.loop-requests-init
loop-requests-init g c = search (rules, c.in-Some.ensures, spends_none, starts, Consumes-nil)

pub exchange-requires : goal.exchange-requires
exchange-requires g c x command asked = search (rules, c.requires, c.loop-requests.invariant.stands, asked_of)

pub returns-in-Err-clause-talks : goal.returns-in-Err-clause-talks
returns-in-Err-clause-talks g c =
    let t = c.in-Err.ensures.talks in
    fails g.C.Counter.commands g.C.Counter.asks c.args.counter.now c.loop-requests.counter c.exchange.new.counter _ _ _ _ _ _ c.loop-requests.stream.read_buffer c.exchange.new.stream.read_buffer c.loop-requests.stream.write_buffer c.exchange.new.stream.write_buffer t.0 t.1 t.2 c.loop-requests.requests c.in-Err.fault c.loop-requests.invariant.stands t.3 t.4 t.5 t.6

pub returns-in-Ok-Last-clause-talks : goal.returns-in-Ok-Last-clause-talks
returns-in-Ok-Last-clause-talks g c =
    let t = rw c.in-Ok-Last.field-0-is at c.in-Ok-Last.ensures.talks in
    let stands = c.loop-requests.invariant.stands in
    ends g.C.Counter.commands g.C.Counter.asks (λ input output. ServesTo g.C.Counter.commands g.C.Counter.asks c.args.counter.now (Ok (record { requests = c.loop-requests.requests + 1 })) (g.R.Source.remaining c.exchange.new.reader) input output c.exchange.new.counter)
    c.args.counter.now c.loop-requests.counter _ _ _ _ _ _ c.loop-requests.stream.read_buffer c.loop-requests.stream.write_buffer t.0 t.1 t.2 c.loop-requests.requests stands t.3 t.4 t.6 (true, stands.on _ _ 1 true _ t.5, λ bad. absurd (cc))

pub returns-in-Ok-End-clause-talks : goal.returns-in-Ok-End-clause-talks
returns-in-Ok-End-clause-talks g c =
    let t = rw c.in-Ok-End.field-0-is at c.in-Ok-End.ensures.talks in
    let stands = c.loop-requests.invariant.stands in
    ends g.C.Counter.commands g.C.Counter.asks (λ input output. ServesTo g.C.Counter.commands g.C.Counter.asks c.args.counter.now (Ok (record { requests = c.loop-requests.requests })) (g.R.Source.remaining c.exchange.new.reader) input output c.exchange.new.counter)
    c.args.counter.now c.loop-requests.counter _ _ _ _ _ _ c.loop-requests.stream.read_buffer c.loop-requests.stream.write_buffer t.0 t.1 t.2 c.loop-requests.requests stands t.3 t.4 t.6
    (false, moved g.C.Counter.commands g.C.Counter.asks _ _ false _ _ _ _ (c.loop-requests.requests + 0) c.loop-requests.requests refl refl (omega arith) (stands.on _ _ 0 false _ t.5.0), λ _. t.5.1)

pub loop-requests-preserved : goal.loop-requests-preserved
loop-requests-preserved g c =
    let t = rw c.in-Ok-Again.field-0-is at c.in-Ok-Again.ensures.talks in
    let left = rw c.in-Ok-Again.field-0-is at c.in-Ok-Again.ensures.left in
    record {
      few = omega (arith, c.loop-requests.invariant.few, left);
      read_failures = c.in-Ok-Again.ensures.read_failures ∙ c.loop-requests.invariant.read_failures;
      write_failures = c.in-Ok-Again.ensures.write_failures ∙ c.loop-requests.invariant.write_failures;
      turns = spends_more _ _ _ _ _ _ c.loop-requests.invariant.turns c.in-Ok-Again.ensures.turns;
      stands = goes g.C.Counter.commands g.C.Counter.asks c.args.counter.now c.loop-requests.counter c.exchange.new.counter _ _ _ _ _ _ c.loop-requests.stream.read_buffer c.exchange.new.stream.read_buffer c.loop-requests.stream.write_buffer c.exchange.new.stream.write_buffer t.0 t.1 t.2 c.loop-requests.requests c.loop-requests.invariant.stands t.3 t.4 t.5 t.6;
      passed = passed_more (λ (k : ℕ). g.G.CommandObserver.passes c.args.gate.now 0 k) c.loop-requests.requests c.loop-requests.invariant.passed (subst (λ (k : ℕ). g.G.CommandObserver.passes c.args.gate.now 0 k) c.piece_of-piece.ensures ((rw c.in-Ok-Again.field-0-is at c.in-Ok-Again.ensures.passed) refl));
    }

pub returns-in-Ok-Last-clause-passed : goal.returns-in-Ok-Last-clause-passed
returns-in-Ok-Last-clause-passed g c = λ k few. c.loop-requests.invariant.passed k (omega (arith, few))

pub returns-in-Ok-End-clause-passed : goal.returns-in-Ok-End-clause-passed
returns-in-Ok-End-clause-passed g c = λ k few. c.loop-requests.invariant.passed k (omega (arith, few))
