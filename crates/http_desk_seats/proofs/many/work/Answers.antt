use Rattle.{std.proofs.Common.{◌∙◌, ◌∷◌, ap, subst}, http_desk_connections.specs.claim.Running.{one_more, requests_of}}
use Rattle.http_desk_seats.proofs.many.work.Goals as goal

pub loop-preserved : goal.loop-preserved
loop-preserved g c =
    let so_far = c.loop.invariant.2 in
    let from = c.loop.invariant.3 in
    let number = c.loop.invariant.4 in
    let served = c.serve-served.result in (
      tt,
      tt,
      record {
        streams = served ∷ so_far.streams;
        talked = (
          c.loop.seat,
          so_far.talked,
          record {
            reader = c.in-Some-accept.reader;
            writer = c.in-Some-accept.writer;
            given = rw (from, number) at c.in-Some-accept.ensures;
            reader_left = c.serve-served.new.reader;
            writer_left = c.serve-served.new.writer;
            serves = c.serve-served.ensures.talks;
            failed_reads = c.serve-served.ensures.read_failures;
            failed_writes = c.serve-served.ensures.write_failures;
            taken_back = subst (λ (a : g.row.A.Denot). g.A.Arrivals.takes_back a c.serve-served.new.reader c.serve-served.new.writer served) from c.finish.ensures.back;
          },
        );
        counts = c.finish.ensures.counted ∙ ap (λ r. one_more r (requests_of served)) so_far.counts;
      },
      c.finish.ensures.from ∙ from,
      c.finish.ensures.number ∙ number,
    )
