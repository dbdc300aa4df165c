use denote.{Exit.no, Param.{param, Send.{sendable, param_sync, arg_sync, shr_sync}}}
use Rattle.{std.proofs.{Common.{rules, ◌≡◌, length}, Crossing.sync as heap_sync}, http_desk_seats.{specs.Streams.traffic, proofs.Counts.each_left}}
use Rattle.http_desk_seats.proofs.Offices.{worker_send, office_sync, captures_sync}
use Rattle.http_desk_seats.proofs.many.serve_places.Goals as goal

pub for_each_mut-requires-send-T : goal.for_each_mut-requires-send-T
for_each_mut-requires-send-T g c κs within = let bounds = c.type_bounds in search (sendable, worker_send, bounds) depth 30

pub for_each_mut-requires-sync-F : goal.for_each_mut-requires-sync-F
for_each_mut-requires-sync-F g c κs within =
    let b = c.type_bounds in
    let office = office_sync (param 0 g.row.J) (param 1 g.row.D) g.J.GalleryId g.D.SectorDevice b.send-J b.send-D in
    param_sync 2 _ (arg_sync _ no _ (captures_sync _ _ _ _ _ _ (shr_sync _ _ _ b.sync-R) (shr_sync _ _ _ heap_sync) (shr_sync _ _ _ office) (shr_sync _ _ _ b.sync-A) (shr_sync _ _ _ b.sync-G)))

pub returns : goal.returns
returns g c =
    let s = traffic g.A.Arrivals.gives g.A.Arrivals.takes_back g.A.Reader.Source g.A.Writer.Sink c.args.arrivals.now in
    let long : length c.for_each_mut.new.s ≡ length c.args.places.now = search rules in
    record {
      left = each_left s g.J.GalleryId.first (λ p. p.worker) (λ p. p.guest) (λ p. p.totals.ran) c.args.places.now c.for_each_mut.new.s long
          (λ i d less. let t = (c.for_each_mut.ensures i d less).1 in rw (t.argument_is, t.left) at t.call.left);
    }
