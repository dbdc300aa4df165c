use Rattle.{std.proofs.Common.◌≡◌, http_desk_seats.specs.{Streams.traffic, claim.Streams.AreServed}}
use Rattle.http_desk_seats.proofs.many.work.Given as goal

abbrev pub invariant-loop : goal.invariant-loop
invariant-loop g l =
    (goal.iterator-loop g).can_next l.iterator' × (goal.iterator-loop g).is_finite l.iterator'
    × AreServed (traffic g.A.Arrivals.gives g.A.Arrivals.takes_back g.A.Reader.Source g.A.Writer.Sink l.fn.acceptor.arrivals.now) g.J.GalleryId.first l.fn.acceptor.worker l.fn.seat l.seat l.acceptor.totals.ran
    × (l.acceptor.arrivals.now ≡ l.fn.acceptor.arrivals.now) × (l.acceptor.worker ≡ l.fn.acceptor.worker)
